-- How a file is read within a limit.
use Rattle.std.proofs.Common.{◌≡◌, ◌≢◌, ℕ, ◌+◌, ◌-◌, ◌*◌, ◌<◌, ◌≤◌, min, max, Bool, false, [], ◌∷◌, ◌++◌, length, inl, inr, sym, ◌∙◌, subst, refl, append-nil, length-append, arith}
use Rattle.std.specs.Prelude.{IsTrue}
use Rattle.ocfl_tree.specs.{Place.{Text, Place}, StorageRoot.{StorageRoot}, Store.{Store, Did}}
use Rattle.ocfl_tree.specs.Calls.{OpenFails, Reads, ReadFails, Closes, opening}
use Rattle.ocfl_tree.specs.{Reading.{IsReading}, declared.store.Trouble.{Trouble}}
use Rattle.ocfl_tree.specs.declared.store.Trouble.TheVariants.{Device, Absent, Memory}
use Rattle.ocfl_digest.specs.Bounded.{IsBoundedTo, ReadsBounded, StopsReading}
use Rattle.ocfl_digest.specs.declared.bounded.Bounded.{Bounded}
use Rattle.ocfl_tree.proofs.Reading.{reading_reads, reading_fails, reading_ends, file_at-at, file_at-none}
use Rattle.ocfl_tree.proofs.Stores.{did_closed}

-- these bytes, no more than limit, were given since s
pub record IsBounding (told : Bool) (s t : Store) (p : Place) (limit : ℕ) (bytes : Text) : Type 0 where
  pub within : length bytes ≤ limit
  pub reading : IsTrue told → IsReading s t p bytes
  -- the first read asked for all it may
  pub asks : IsTrue told → t.largest ≡ max s.largest (min (min 4096 (limit + 1)) (4096 * length bytes))

-- the room of the next read
abbrev pub IsRoom : ℕ → ℕ → ℕ → Type 0
IsRoom limit n room = room ≡ min (limit - n) 4095 + 1

asks_more : (limit n room a b c : ℕ) → n ≤ limit → IsRoom limit n room → b ≡ max a (min (min 4096 (limit + 1)) (4096 * n)) → c ≡ max b room → c ≡ max a (min 4096 (limit + 1))
asks_more limit n room a b c within is before now = omega arith

asks_still : (limit n a c : ℕ) → c ≡ max a (min 4096 (limit + 1)) → 0 < n → c ≡ max a (min (min 4096 (limit + 1)) (4096 * n))
asks_still limit n a c h some = omega arith

pub bounding_reads : (told : Bool) (s t u : Store) (p : Place) (limit room : ℕ) (bytes piece : Text)
    → IsRoom limit (length bytes) room → IsBounding told s t p limit bytes → (IsTrue told → Reads t u piece room)
    → (IsTrue told → u.largest ≡ max t.largest room) → 0 < length piece → length piece ≤ limit - length bytes
    → IsBounding told s u p limit (bytes ++ piece)
bounding_reads told s t u p limit room bytes piece is_room before reads largest some fits =
    let both = length-append bytes piece in
    let within = before.within in
    record {
      within = omega (arith, both);
      reading = λ is. reading_reads s t u p bytes piece room (before.reading is) (reads is);
      asks = λ is.
          asks_still limit (length (bytes ++ piece)) s.largest u.largest
          (asks_more limit (length bytes) room s.largest t.largest u.largest within is_room (before.asks is) (largest is)) (omega (arith, both));
    }

pub bounding_ends : (told : Bool) (root : StorageRoot) (s t u v : Store) (p : Place) (limit room : ℕ) (bytes piece : Text) (b : Bounded)
    → IsRoom limit (length bytes) room → IsBounding told s t p limit bytes → Reads t u piece room → piece ≡ []
    → u.largest ≡ max t.largest room → Closes u v → IsBoundedTo limit bytes b
    → IsTrue told → s.tree ≡ root → ReadsBounded root s v p limit b
bounding_ends told root s t u v p limit room bytes piece b is_room before reads empty largest closes fits is same =
    let last : Reads t u [] room = subst (λ xs. Reads t u xs room) empty reads in
    let now : IsReading s u p bytes = subst (IsReading s u p) (append-nil bytes) (reading_reads s t u p bytes [] room (before.reading is) last) in
    let within = before.within in
    let all : min (length bytes) (limit + 1) ≡ length bytes = omega arith in
    record {
      bytes = bytes;
      is_file = file_at-at s root p bytes same (reading_ends s t u p bytes room (before.reading is) last (omega arith));
      is_bounded = fits;
      did = subst (λ m. Did s v (opening p m false ∷ []) [] 0) (sym all) (did_closed s u v _ _ _ now.did closes);
      closed = closes.closed;
      largest = closes.largest ∙ asks_more limit (length bytes) room s.largest t.largest u.largest within is_room (before.asks is) largest;
    }

-- a read went past the limit
pub bounding_passes : (told : Bool) (root : StorageRoot) (s t u v : Store) (p : Place) (limit room : ℕ) (bytes piece : Text) (b : Bounded)
    → IsRoom limit (length bytes) room → IsBounding told s t p limit bytes → Reads t u piece room → length piece ≤ room → limit - length bytes < length piece
    → u.largest ≡ max t.largest room → Closes u v → ((all : Text) → limit < length all → IsBoundedTo limit all b)
    → IsTrue told → s.tree ≡ root → ReadsBounded root s v p limit b
bounding_passes told root s t u v p limit room bytes piece b is_room before reads short past largest closes over is same =
    let now = reading_reads s t u p bytes piece room (before.reading is) reads in
    let within = before.within in
    let given = length-append bytes piece in
    let all = length-append (bytes ++ piece) now.left in
    let most : min (length ((bytes ++ piece) ++ now.left)) (limit + 1) ≡ length (bytes ++ piece) = omega arith in
    record {
      bytes = (bytes ++ piece) ++ now.left;
      is_file = file_at-at s root p ((bytes ++ piece) ++ now.left) same now.is_file;
      is_bounded = over _ (omega arith);
      did = subst (λ m. Did s v (opening p m false ∷ []) [] 0) (sym most) (did_closed s u v _ _ _ now.did closes);
      closed = closes.closed;
      largest = closes.largest ∙ asks_more limit (length bytes) room s.largest t.largest u.largest within is_room (before.asks is) largest;
    }

pub open_stops : (root : StorageRoot) (s t : Store) (p : Place) (limit : ℕ) (trouble : Trouble) → OpenFails s t p trouble → s.tree ≡ root → StopsReading root s t p limit trouble
open_stops root s t p limit Device h same =
    record { openings = _; opened = (0, omega arith, refl); did = h.fails.did; absent = λ e. absurd cc; closed = h.fails.closed; largest = let e = h.fails.largest in omega (arith, e) }
open_stops root s t p limit Absent h same =
    record { openings = _; opened = refl; did = h.fails.did; absent = λ e. file_at-none s root p same (h.absent refl); closed = h.fails.closed; largest = let e = h.fails.largest in omega (arith, e) }
open_stops root s t p limit Memory h same =
    record { openings = _; opened = inl refl; did = h.fails.did; absent = λ e. absurd cc; closed = h.fails.closed; largest = let e = h.fails.largest in omega (arith, e) }

pub read_stops : (told : Bool) (root : StorageRoot) (s t u : Store) (p : Place) (limit room : ℕ) (bytes : Text) (trouble : Trouble)
    → IsRoom limit (length bytes) room → IsBounding told s t p limit bytes → ReadFails t u trouble → trouble ≢ Memory → u.largest ≡ max t.largest room
    → IsTrue told → StopsReading root s u p limit trouble
read_stops told root s t u p limit room bytes Device is_room before fails other largest is =
    let within = before.within in
    let asked = asks_more limit (length bytes) room s.largest t.largest u.largest within is_room (before.asks is) largest in
    record {
      openings = _;
      opened = (length bytes, within, refl);
      did = reading_fails s t u p bytes (before.reading is) fails;
      absent = λ e. absurd cc;
      closed = fails.closed;
      largest = omega (arith, asked);
    }
read_stops told root s t u p limit room bytes Absent is_room before fails other largest is =
    let open_file = (before.reading is).rest in
    let no_file = (fails.absent refl).0 in
    absurd cc
read_stops told root s t u p limit room bytes Memory is_room before fails other largest is = absurd (other refl)

-- the bytes that were read found no room
pub memory_stops : (told : Bool) (root : StorageRoot) (s t u v : Store) (p : Place) (limit room : ℕ) (bytes piece : Text)
    → IsRoom limit (length bytes) room → IsBounding told s t p limit bytes → Reads t u piece room → length piece ≤ limit - length bytes
    → u.largest ≡ max t.largest room → Closes u v → IsTrue told → StopsReading root s v p limit Memory
memory_stops told root s t u v p limit room bytes piece is_room before reads fits largest closes is =
    let within = before.within in
    let asked = asks_more limit (length bytes) room s.largest t.largest u.largest within is_room (before.asks is) largest in
    let kept = closes.largest in
    record {
      openings = _;
      opened = inr (length (bytes ++ piece), omega (arith, length-append bytes piece), refl);
      did = did_closed s u v _ _ _ (reading_reads s t u p bytes piece room (before.reading is) reads).did closes;
      absent = λ e. absurd cc;
      closed = closes.closed;
      largest = omega (arith, asked, kept);
    }
