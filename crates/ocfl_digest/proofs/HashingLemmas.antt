-- How a file is hashed piece by piece.
use Rattle.std.proofs.Common.{◌≡◌, ◌≢◌, ℕ, ◌+◌, ◌-◌, ◌*◌, ◌^◌, ◌<◌, ◌≤◌, min, max, Bool, false, true, List, [], ◌∷◌, ◌++◌, length, Some, sym, ◌∙◌, ap, subst, refl, append-nil, length-append, arith}
use Rattle.std.specs.Prelude.{IsTrue}
use Rattle.ocfl_tree.specs.{Place.{Text, Place}, StorageRoot.{StorageRoot, file_at}}
use Rattle.ocfl_tree.specs.Store.{Store, Did}
use Rattle.ocfl_tree.specs.Calls.{OpenFails, Reads, ReadFails, Closes, opening}
use Rattle.ocfl_tree.specs.{Reading.{IsReading}, declared.store.Trouble.{Trouble}}
use Rattle.ocfl_tree.specs.declared.store.Trouble.TheVariants.{Device, Absent, Memory}
use Rattle.ocfl_digest.specs.{Digests.{AreDigests, AreDigestsOfSome}, Internal.Hashers.{AreFed}}
use Rattle.ocfl_digest.specs.{Hashing.{HashesFile, StopsHashing}, Internal.Pieces.{FeedsPiece}}
use Rattle.ocfl_digest.specs.{Stop.{cause_of}, declared.digests.Digests.{Digests}}
use Rattle.ocfl_digest.specs.declared.hashers.Hashers.{Hashers}
use Rattle.ocfl_digest.specs.declared.stop.Cause.TheVariants.{TooLong}
use Rattle.ocfl_digest.specs.declared.wanted.Wanted.{Wanted}
use Rattle.ocfl_tree.proofs.Reading.{reading_reads, reading_fails, reading_ends, file_at-at, file_at-none, same_some}
use Rattle.ocfl_tree.proofs.Stores.{did_closed}

-- the largest read so far, if n bytes were given in reads that ask for 65,536
abbrev pub AsksBlocks : Store → Store → ℕ → Type 0
AsksBlocks s t n = t.largest ≡ max s.largest (min 65536 (65536 * n))

-- n bytes were given since s, and the wanted hashers hold them
pub record IsHashing (told : Bool) (s t : Store) (p : Place) (w : Wanted) (h : Hashers) (n : ℕ) : Type 0 where
  pub bytes : Text
  pub length_is : length bytes ≡ n
  pub fed : AreFed w bytes h
  pub short : n ≤ 2 ^ 62
  pub reading : IsTrue told → IsReading s t p bytes
  pub asks : IsTrue told → AsksBlocks s t n

no_length : (xs : List ℕ) → length xs ≡ 0 → xs ≡ []
no_length [] e = refl
no_length (x ∷ xs) e = absurd (omega arith)

-- the room of the next read
abbrev pub room_after : ℕ → ℕ
room_after n = min (2 ^ 62 - n) 65536

-- the next read asks for 65,536 bytes, or for less if more were asked before
asks_more : (n room a b c : ℕ) → room ≡ room_after n → b ≡ max a (min 65536 (65536 * n)) → c ≡ max b room → n < 2 ^ 62 → c ≡ max a 65536
asks_more n room a b c is before now short = omega arith

asks_still : (n a c : ℕ) → c ≡ max a 65536 → 0 < n → c ≡ max a (min 65536 (65536 * n))
asks_still n a c h some = omega arith

pub hashing_feeds : (told : Bool) (s t u : Store) (p : Place) (w : Wanted) (h k : Hashers) (n room count : ℕ)
    → room ≡ room_after n → IsHashing told s t p w h n → n < 2 ^ 62 → FeedsPiece told t u h k room count → count ≤ room → 0 < count
    → (IsTrue told → u.largest ≡ max t.largest room)
    → IsHashing told s u p w k (n + count)
hashing_feeds told s t u p w h k n room count is_room before short piece within some largest =
    let old = before.length_is in
    let new = piece.length_is in
    record {
      bytes = before.bytes ++ piece.bytes;
      length_is = omega (arith, length-append before.bytes piece.bytes, old, new);
      fed = piece.fed w before.bytes before.fed;
      short = omega arith;
      reading = λ is. reading_reads s t u p before.bytes piece.bytes room (before.reading is) (piece.reads is);
      asks = λ is. asks_still (n + count) s.largest u.largest (asks_more n room s.largest t.largest u.largest is_room (before.asks is) (largest is) short) (omega arith);
    }

pub hashing_ends : (told : Bool) (s t u v : Store) (root : StorageRoot) (p : Place) (w : Wanted) (h k : Hashers) (d : Digests) (n room count : ℕ)
    → room ≡ room_after n → IsHashing told s t p w h n → n < 2 ^ 62 → FeedsPiece told t u h k room count → count ≡ 0
    → (IsTrue told → u.largest ≡ max t.largest room) → (IsTrue told → Closes u v)
    → ((bytes : Text) → AreFed w bytes k → AreDigests w bytes d)
    → IsTrue told → s.tree ≡ root → HashesFile root s v p w d n
hashing_ends told s t u v root p w h k d n room count is_room before short piece empty largest closes digests is same =
    let none : piece.bytes ≡ [] = no_length piece.bytes (piece.length_is ∙ empty) in
    let reads : Reads t u [] room = subst (λ xs. Reads t u xs room) none (piece.reads is) in
    let fed : AreFed w before.bytes k = subst (λ xs. AreFed w xs k) (ap (λ xs. before.bytes ++ xs) none ∙ append-nil before.bytes) (piece.fed w before.bytes before.fed) in
    let now : IsReading s u p before.bytes = subst (IsReading s u p) (append-nil before.bytes) (reading_reads s t u p before.bytes [] room (before.reading is) reads) in
    let asked = asks_more n room s.largest t.largest u.largest is_room (before.asks is) (largest is) short in
    record {
      bytes = before.bytes;
      is_file = file_at-at s root p before.bytes same (reading_ends s t u p before.bytes room (before.reading is) reads (omega arith));
      digests = digests before.bytes fed;
      length_is = sym before.length_is;
      did = subst (λ m. Did s v (opening p m false ∷ []) [] 0) before.length_is (did_closed s u v _ _ _ now.did (closes is));
      closed = (closes is).closed;
      largest = (closes is).largest ∙ asked;
    }

pub hashing_digests : (told : Bool) (s t u : Store) (p : Place) (w : Wanted) (h k : Hashers) (d : Digests) (n room count : ℕ)
    → IsHashing told s t p w h n → FeedsPiece told t u h k room count → count ≡ 0
    → ((bytes : Text) → AreFed w bytes k → AreDigests w bytes d) → AreDigestsOfSome w d n
hashing_digests told s t u p w h k d n room count before piece empty digests =
    let none : piece.bytes ≡ [] = no_length piece.bytes (piece.length_is ∙ empty) in
    let fed : AreFed w before.bytes k = subst (λ xs. AreFed w xs k) (ap (λ xs. before.bytes ++ xs) none ∙ append-nil before.bytes) (piece.fed w before.bytes before.fed) in
    record { bytes = before.bytes; length_is = before.length_is; digests = digests before.bytes fed }

pub open_stops : (root : StorageRoot) (s t : Store) (p : Place) (trouble : Trouble) → s.tree ≡ root → OpenFails s t p trouble → StopsHashing root s t p 0 (cause_of trouble)
open_stops root s t p Device same h = record { fits = λ bytes is. omega arith; did = h.fails.did; closed = h.fails.closed; largest = let e = h.fails.largest in omega (arith, e) }
open_stops root s t p Absent same h =
    record { fits = (file_at-none s root p same (h.absent refl), refl); did = h.fails.did; closed = h.fails.closed; largest = let e = h.fails.largest in omega (arith, e) }
open_stops root s t p Memory same h = record { fits = refl; did = h.fails.did; closed = h.fails.closed; largest = let e = h.fails.largest in omega (arith, e) }

-- what was given is no longer than the file
given_within : (s t : Store) (root : StorageRoot) (p : Place) (xs : Text) → s.tree ≡ root → IsReading s t p xs → (bytes : Text) → file_at root p ≡ Some bytes → length xs ≤ length bytes
given_within s t root p xs same h bytes is =
    let all : bytes ≡ xs ++ h.left = same_some _ _ (sym is ∙ file_at-at s root p (xs ++ h.left) same h.is_file) in
    omega (arith, ap length all, length-append xs h.left)

pub read_stops : (told : Bool) (root : StorageRoot) (s t u : Store) (p : Place) (w : Wanted) (h : Hashers) (n room : ℕ) (trouble : Trouble)
    → room ≡ room_after n → IsHashing told s t p w h n → n < 2 ^ 62 → ReadFails t u trouble → trouble ≢ Memory → u.largest ≡ max t.largest room
    → IsTrue told → s.tree ≡ root → StopsHashing root s u p n (cause_of trouble)
read_stops told root s t u p w h n room Device is_room before short fails other largest is same =
    let asked = asks_more n room s.largest t.largest u.largest is_room (before.asks is) largest short in
    record {
      fits = λ bytes at_place. omega (arith, before.length_is, given_within s t root p before.bytes same (before.reading is) bytes at_place);
      did = subst (λ m. Did s u (opening p m true ∷ []) [] 1) before.length_is (reading_fails s t u p before.bytes (before.reading is) fails);
      closed = fails.closed;
      largest = omega (arith, asked);
    }
read_stops told root s t u p w h n room Absent is_room before short fails other largest is same =
    let open_file = (before.reading is).rest in
    let no_file = (fails.absent refl).0 in
    absurd cc
read_stops told root s t u p w h n room Memory is_room before short fails other largest is same = absurd (other refl)

pub too_long_stops : (told : Bool) (root : StorageRoot) (s t u : Store) (p : Place) (w : Wanted) (h : Hashers) (n : ℕ)
    → IsHashing told s t p w h n → 2 ^ 62 ≤ n → (IsTrue told → Closes t u) → IsTrue told → s.tree ≡ root → StopsHashing root s u p n TooLong
too_long_stops told root s t u p w h n before long closes is same =
    let now = before.reading is in
    let asked = before.asks is in
    let kept = (closes is).largest in
    record {
      fits = (
        before.bytes ++ now.left,
        file_at-at s root p (before.bytes ++ now.left) same now.is_file,
        omega (arith, before.length_is, length-append before.bytes now.left),
        omega (arith, before.short),
      );
      did = subst (λ m. Did s u (opening p m false ∷ []) [] 0) before.length_is (did_closed s t u _ _ _ now.did (closes is));
      closed = (closes is).closed;
      largest = omega (arith, asked, kept);
    }
