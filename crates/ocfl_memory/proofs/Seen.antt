-- What the calls of a tree in memory do to what it tells.
use Rattle.std.proofs.Common.{◌≡◌, ℕ, zero, suc, ◌+◌, ◌-◌, ◌<◌, ◌≤◌, true, false, List, [], ◌∷◌, ◌++◌, length, take, drop, Option, Some, None, sym, ◌∙◌, ap, subst, refl, arith, append-nil, length-append, length-drop}
use Rattle.std.proofs.Math.Seq.{take-length}
use Rattle.std.proofs.lemmas.List.{length-take-le, take-append-drop, drop-drop, nil_from_length}
use Rattle.ocfl_tree.specs.{Place.{Text, Place}, StorageRoot.{StorageRoot, file, dir}}
use Rattle.ocfl_tree.specs.{Ascending.{IsAmong}, Store.{Did, failed_openings}}
use Rattle.ocfl_tree.specs.Calls.{Lists, ListFails, Opens, OpenFails, Reads, ReadFails, opening, change_last, with_given, with_failure}
use Rattle.ocfl_tree.specs.{declared.store.Entry.{Entry}, declared.store.Opening.{Opening}}
use Rattle.ocfl_tree.specs.declared.store.Trouble.TheVariants.{Device}
use Rattle.std.specs.{Prelude.{slice_get, nat_lt, ◌&&◌, ◌^◌, Bool}, Option.{option_map_or}}
use Rattle.ocfl_memory.specs.{Faults.{Faults, is_struck}, MemTree.{fails, read_fails}}
use Rattle.ocfl_memory.specs.Internal.Nodes.{leaf_at, bytes_in, stands_at, kept_in}
use Rattle.ocfl_memory.specs.Internal.Kept.{rest_of, seen, IsOpen, IfOpen, IsKept}
use Rattle.ocfl_memory.specs.declared.mem_tree.OpenFile.{OpenFile}
use Rattle.ocfl_memory.specs.declared.plan.Point.TheVariants as point
use Rattle.ocfl_memory.proofs.Listings.{kept_is_listing}
use Rattle.ocfl_tree.proofs.{Lists.{change_last-append}, Trees.{some_not_none}}

module _ (nodes : StorageRoot) (o : Option OpenFile) (os : List Opening) (ls us : List Place) (f l : ℕ) (g h : Faults) where
  -- what was added, with the listings among it that failed
  did_so : (o' : Option OpenFile) (os' : List Opening) (ls' us' : List Place) (f' : ℕ) (h : Faults) (xs : List Opening) (ys zs : List Place) (n : ℕ) → os' ≡ os ++ xs → ls' ≡ ls ++ ys
      → us' ≡ us ++ zs → f' ≡ f + n → ((q : Place) → IsAmong zs q → IsAmong ys q) → n ≡ failed_openings xs + length zs
      → Did (seen nodes o os ls us f l g).store (seen nodes o' os' ls' us' f' l h).store xs ys n
  did_so o' os' ls' us' f' h xs ys zs n opened listed noted more among each = search (refl, zs)

  pub lists_seen : (ls' : List Place) (p : Place) (es : List Entry) → IsKept nodes os o → stands_at nodes p ≡ Some dir → es ≡ kept_in nodes p → ls' ≡ ls ++ p ∷ []
      → Lists (seen nodes o os ls us f l g).store (seen nodes o os ls' us f l h).store p es
  lists_seen ls' p es k is same added = record {
    entries = rw same (kept_is_listing nodes p (k.rooted p ∙ is));
    did = did_so o os ls' us f h [] (p ∷ []) [] 0 (sym (append-nil os)) added (sym (append-nil us)) (omega arith) (λ q i. absurd i) refl;
    rest = refl;
    largest = refl;
  }

  pub list_breaks : (ls' us' : List Place) (p : Place) → ls' ≡ ls ++ p ∷ [] → us' ≡ us ++ p ∷ []
      → ListFails (seen nodes o os ls us f l g).store (seen nodes None os ls' us' (f + 1) l h).store p Device
  list_breaks ls' us' p added noted = record {
    fails = record {
      did = did_so None os ls' us' (f + 1) h [] (p ∷ []) (p ∷ []) 1 (sym (append-nil os)) added noted refl (λ q i. i) refl;
      closed = refl;
      largest = refl;
    };
    absent = λ is. absurd cc;
  }

  pub opens_seen : (os' : List Opening) (p : Place) (i : ℕ) → IsKept nodes os o → stands_at nodes p ≡ Some (file (bytes_in (leaf_at nodes i))) → os' ≡ os ++ opening p 0 false ∷ []
      → Opens (seen nodes o os ls us f l g).store (seen nodes (Some (record { index = i; offset = 0 })) os' ls us f l h).store p
  opens_seen os' p i k is added = record {
    bytes = bytes_in (leaf_at nodes i);
    is_file = k.rooted p ∙ is;
    rest = refl;
    did = did_so (Some (record { index = i; offset = 0 })) os' ls us f h (opening p 0 false ∷ []) [] [] 0 added (sym (append-nil ls)) (sym (append-nil us)) (omega arith) (λ q j. absurd j)
        refl;
    largest = refl;
  }

  pub open_breaks : (os' : List Opening) (p : Place) → os' ≡ os ++ opening p 0 true ∷ [] → OpenFails (seen nodes o os ls us f l g).store (seen nodes None os' ls us (f + 1) l h).store p Device
  open_breaks os' p added = record {
    fails = record {
      did = did_so None os' ls us (f + 1) h (opening p 0 true ∷ []) [] [] 1 added (sym (append-nil ls)) (sym (append-nil us)) refl (λ q i. i) refl;
      closed = refl;
      largest = refl;
    };
    absent = λ is. absurd cc;
  }

-- ---- reads

pub is_open : (nodes : StorageRoot) (os : List Opening) (o : Option OpenFile) (r : OpenFile) → o ≡ Some r → IfOpen nodes os o → IsOpen nodes os r
is_open nodes os o r is h = subst (IfOpen nodes os) is h

last_at : (front : List Opening) (last : Opening) → slice_get (front ++ last ∷ []) (length front) ≡ Some last
last_at [] last = refl
last_at (x ∷ front) last = last_at front last

pub last_is : (front : List Opening) (last : Opening) → slice_get (front ++ last ∷ []) (length (front ++ last ∷ []) - 1) ≡ Some last
last_is front last =
    let place : length (front ++ last ∷ []) - 1 ≡ length front = omega (arith, length-append front (last ∷ [])) in
    ap (slice_get (front ++ last ∷ [])) place ∙ last_at front last

-- whether the device fails in a read of the open file
pub read_fails_is : (nodes : StorageRoot) (o : Option OpenFile) (r : OpenFile) (os : List Opening) (ls us : List Place) (f l : ℕ) (g : Faults) (struck : Bool) → o ≡ Some r → IfOpen nodes os o
    → ((front : List Opening) (last : Opening) → os ≡ front ++ last ∷ [] → struck ≡ is_struck g last.place (point.Read last.given))
    → read_fails (seen nodes o os ls us f l g) ≡ (nat_lt (f + 1) (2 ^ 64) && struck)
read_fails_is nodes o r os ls us f l g struck is h told =
    let open_file = is_open nodes os o r is h in
    let last : slice_get os (length os - 1) ≡ Some open_file.last = ap (λ xs. slice_get xs (length xs - 1)) open_file.is_last ∙ last_is open_file.front open_file.last in
    ap (λ x. option_map_or (λ y. fails (seen nodes o os ls us f l g) y.place (point.Read y.given)) x false) last
    ∙ ap (λ b. nat_lt (f + 1) (2 ^ 64) && b) (sym (told open_file.front open_file.last open_file.is_last))

pub some_rest : (nodes : StorageRoot) (o : Option OpenFile) (r : OpenFile) → o ≡ Some r → rest_of nodes o ≡ Some (drop r.offset (bytes_in (leaf_at nodes r.index)))
some_rest nodes o r is = ap (rest_of nodes) is

pub read_breaks : (nodes : StorageRoot) (o : Option OpenFile) (r : OpenFile) (os os' : List Opening) (ls us : List Place) (f l l' : ℕ) (g h : Faults) → o ≡ Some r → IfOpen nodes os o
    → ((front : List Opening) (last : Opening) → os ≡ front ++ last ∷ [] → os' ≡ front ++ with_failure last ∷ [])
    → ReadFails (seen nodes o os ls us f l g).store (seen nodes None os' ls us (f + 1) l' h).store Device
read_breaks nodes o r os os' ls us f l l' g h is k noted =
    let open_file = is_open nodes os o r is k in
    record {
      tree = refl;
      closed = refl;
      listings_are = refl;
      failed_listings_are = refl;
      failures_are = refl;
      absent = λ e. absurd cc;
      device = λ _. (
        λ none. some_not_none _ (sym (some_rest nodes o r is) ∙ none),
        noted open_file.front open_file.last open_file.is_last ∙ sym (change_last-append with_failure open_file.front open_file.last) ∙ ap (change_last with_failure) (sym open_file.is_last),
      );
    }

by_length : (m n room x y : ℕ) → n ≡ 0 → 0 < room → (0 < m → 0 < room → 0 < n) → m ≡ x + y → y ≡ 0
by_length zero n room x y e filled some whole = omega arith
by_length (suc m) n room x y e filled some whole = absurd (omega (arith, some (omega arith) filled))

-- a read of n bytes
pub reads_seen : (nodes : StorageRoot) (o : Option OpenFile) (r : OpenFile) (os os' : List Opening) (ls us : List Place) (f l l' n room : ℕ) (g h : Faults)
    (given all : Text) → o ≡ Some r → IfOpen nodes os o
    → all ≡ drop r.offset (bytes_in (leaf_at nodes r.index))
    → n ≤ length all
    → (0 < length all → 0 < room → 0 < n)
    → given ≡ take n all
    → ((front : List Opening) (last : Opening) → os ≡ front ++ last ∷ [] → os' ≡ front ++ with_given n last ∷ [])
    → Reads (seen nodes o os ls us f l g).store (seen nodes (Some (record { index = r.index; offset = r.offset + n })) os' ls us f l' h).store given room
reads_seen nodes o r os os' ls us f l l' n room g h given all is k rest enough some taken noted =
    let open_file = is_open nodes os o r is k in
    let bytes : Text = bytes_in (leaf_at nodes r.index) in
    let long : length given ≡ n = ap length taken ∙ length-take-le n all enough in
    let split : all ≡ given ++ drop (r.offset + n) bytes =
    sym (take-append-drop n all) ∙ ap (λ ys. take n all ++ ys) (ap (drop n) rest ∙ drop-drop n r.offset bytes)
    ∙ ap (λ ys. ys ++ drop (r.offset + n) bytes) (sym taken) in
    record {
      left = drop (r.offset + n) bytes;
      before = some_rest nodes o r is ∙ ap Some (sym rest ∙ split);
      after = refl;
      end = λ none filled. nil_from_length _ (
          let zero_long : n ≡ 0 = sym long ∙ ap length none in
          let whole : length all ≡ length given + length (drop (r.offset + n) bytes) = ap length split ∙ length-append given (drop (r.offset + n) bytes) in
          by_length (length all) n room _ _ zero_long filled some whole);
      tree = refl;
      openings_are = noted open_file.front open_file.last open_file.is_last ∙ sym (change_last-append (with_given n) open_file.front open_file.last)
          ∙ ap (change_last (with_given n)) (sym open_file.is_last) ∙ ap (λ m. change_last (with_given m) os) (sym long);
      listings_are = refl;
      failed_are = refl;
      failures_are = refl;
    }

pub rest_slice : (offset : ℕ) (xs : Text) → take (length xs - offset) (drop offset xs) ≡ drop offset xs
rest_slice offset xs = rw (← length-drop offset xs) (take-length (drop offset xs))
