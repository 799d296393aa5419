-- A file that is opened, read piece by piece, and closed.
use Rattle.std.specs.Prelude.{option_and_then}
use Rattle.std.proofs.Common.{◌≡◌, ◌≢◌, Option, None, ℕ, ◌+◌, true, false, [], ◌∷◌, ◌++◌, length, Some, sym, ◌∙◌, ap, refl, append_assoc, append-nil, length-append, arith, add-zero, ◌<◌}
use Rattle.ocfl_tree.specs.Place.{Text, Place}
use Rattle.ocfl_tree.specs.StorageRoot.{StorageRoot, Leaf, file, dir, other, at, bytes_of, file_at}
use Rattle.ocfl_tree.specs.Store.{Store, Did, failed_openings}
use Rattle.ocfl_tree.specs.Calls.{Opens, Reads, ReadFails, Closes, opening, change_last, with_given, with_failure}
use Rattle.ocfl_tree.specs.{Reading.{IsReading}, declared.store.Opening.{Opening}}
use Rattle.ocfl_tree.specs.declared.store.Trouble.TheVariants.{Device, Absent}
use Rattle.ocfl_tree.proofs.{Stores.{did_both, listed_well}, Trees.{some_not_none}}
use Rattle.ocfl_tree.proofs.Lists.{change_last-append}

pub reading_opens : (s t : Store) (p : Place) → Opens s t p → IsReading s t p []
reading_opens s t p o = record { left = o.bytes; is_file = o.is_file; rest = o.rest; did = o.did }

pub same_some : {A : Type 0} (x y : A) → Some x ≡ Some y → x ≡ y
same_some x y e = cc

-- what a change of the last opening leaves of a reading
changed : (s t u : Store) (p : Place) (given n : ℕ) (f : Opening → Opening) → Did s t (opening p given false ∷ []) [] 0 → u.tree ≡ t.tree
    → u.openings ≡ change_last f t.openings → u.listings ≡ t.listings → u.failed_listings ≡ t.failed_listings → u.failures ≡ t.failures + n
    → n ≡ failed_openings (f (opening p given false) ∷ []) → Did s u (f (opening p given false) ∷ []) [] n
changed s t u p given n f did tree openings listings unlisted failures each = record {
  tree = tree ∙ did.tree;
  openings_are = openings ∙ ap (change_last f) did.openings_are ∙ change_last-append f s.openings (opening p given false);
  listings_are = listings ∙ did.listings_are;
  failures_are = let one = did.failures_are in omega (arith, one, failures);
  failed = [];
  failed_are = unlisted ∙ listed_well s t (opening p given false ∷ []) [] 0 (omega arith) did ∙ sym (append-nil s.failed_listings);
  failed_among = λ q i. i;
  each_failed = each ∙ sym (add-zero (failed_openings (f (opening p given false) ∷ [])));
}

pub reading_reads : (s t u : Store) (p : Place) (given bytes : Text) (room : ℕ) → IsReading s t p given → Reads t u bytes room → IsReading s u p (given ++ bytes)
reading_reads s t u p given bytes room h r =
    let left : h.left ≡ bytes ++ r.left = same_some _ _ (sym h.rest ∙ r.before) in
    record {
      left = r.left;
      is_file = h.is_file ∙ ap (λ x. Some (file x)) (ap (λ x. given ++ x) left ∙ sym (append_assoc given bytes r.left));
      rest = r.after;
      did = rw (length-append given bytes) (changed s t u p (length given) 0 (with_given (length bytes)) h.did r.tree r.openings_are r.listings_are r.failed_are (r.failures_are ∙ sym (add-zero t.failures)) refl);
    }

-- at the end, the bytes that were given are the file's
pub reading_ends : (s t u : Store) (p : Place) (given : Text) (room : ℕ) → IsReading s t p given → Reads t u [] room → 0 < room → at s.tree p ≡ Some (file given)
reading_ends s t u p given room h r filled =
    let left : h.left ≡ [] = same_some _ _ (sym h.rest ∙ r.before) ∙ r.end refl filled in
    h.is_file ∙ ap (λ x. Some (file (given ++ x))) left ∙ ap (λ x. Some (file x)) (append-nil given)

pub reading_fails : (s t u : Store) (p : Place) (given : Text) → IsReading s t p given → ReadFails t u Device → Did s u (opening p (length given) true ∷ []) [] 1
reading_fails s t u p given h r = changed s t u p (length given) 1 with_failure h.did r.tree (r.device refl).1 r.listings_are r.failed_listings_are r.failures_are refl

pub reading_closes : (s t u : Store) (p : Place) (given : Text) → IsReading s t p given → Closes t u → Did s u (opening p (length given) false ∷ []) [] 0
reading_closes s t u p given h c = did_both s t u (opening p (length given) false ∷ []) [] [] [] 0 0 h.did c.did

-- while a file is open, no read answers that none is
pub reading_stays_open : (s t u : Store) (p : Place) (given : Text) → IsReading s t p given → ReadFails t u Absent → ⊥
reading_stays_open s t u p given h r = some_not_none h.left (sym h.rest ∙ (r.absent refl).0)

-- ---- what `at` gives, as the bytes of a file

pub file_at-at : (s : Store) (root : StorageRoot) (p : Place) (bytes : Text) → s.tree ≡ root → at s.tree p ≡ Some (file bytes) → file_at root p ≡ Some bytes
file_at-at s root p bytes same is = rw (← same, is) refl

no_bytes : (leaf : Option Leaf) → ((bytes : Text) → leaf ≢ Some (file bytes)) → option_and_then bytes_of leaf ≡ None
no_bytes None h = refl
no_bytes (Some (file bytes)) h = absurd (h bytes refl)
no_bytes (Some dir) h = refl
no_bytes (Some other) h = refl

pub file_at-none : (s : Store) (root : StorageRoot) (p : Place) → s.tree ≡ root → ((bytes : Text) → at s.tree p ≢ Some (file bytes)) → file_at root p ≡ None
file_at-none s root p same h = rw (← same) (no_bytes (at s.tree p) h)
