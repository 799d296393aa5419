-- Zones, and what is seen, on the way down to a place.
use Rattle.std.proofs.Common.{◌≡◌, ◌+◌, ◌≤◌, List, [], ◌∷◌, ◌++◌, refl, sym, ◌∙◌, ap, true, false, Bool, Some, None, arith, length}
use Rattle.std.proofs.{lemmas.Bool.{false_from_ne_true, leb-true, le-leb}, lemmas.List.{length-append}}
use Rattle.std.specs.Prelude.{cond, ◌&&◌, ◌||◌, not, nat_le, option_and_then, codes}
use Rattle.std.specs.List.{list_all}
use Rattle.ocfl_tree.specs.Place.{Text, Place, text_eq}
use Rattle.ocfl_tree.specs.StorageRoot.{StorageRoot, dir, at, file_at, is_dir, is_dir_leaf}
use Rattle.ocfl_tree.specs.{Listing.{kind_in, IsOrdinary, IsListing}, declared.store.Entry.{Entry}}
use Rattle.ocfl_inventory.specs.{Declaration.{undeclared, declared}, Entries.{file_names}}
use Rattle.ocfl_inventory.specs.Table.{Table, table_of}
use Rattle.ocfl_inventory.specs.declared.declaration.Level.TheVariants as level
use Rattle.ocfl_rules.specs.Zone.{Zone, skipped, hierarchy, inside, object_zone, object_declared, root_declared, is_in_extensions, zone, inventory_name, inventory_limit, table_at, max_listed_depth, is_entered, is_listed_zone, is_listed_in_object, seen, beginnings, files_in, is_known, is_declared}
use Rattle.ocfl_rules.specs.Walk.{step_zone, is_extensions, is_reached}
use Rattle.ocfl_item.specs.Internal.Content.{IsSight}
use Rattle.ocfl_item.specs.Ways.{is_listable, is_extensions_name, IsAt, InHierarchy, IsObject}
use Rattle.ocfl_item.specs.Internal.Ways.{IsOpenObject}
use Rattle.ocfl_item.specs.declared.sight.Sight.TheVariants as sight
use Rattle.ocfl_tree.proofs.{Bools.{and_first, and_second, and_both}, Orders.{true_not_false}}
pub use Rattle.ocfl_tree.proofs.Trees.{dir_from_leaf}
use Rattle.ocfl_rules.proofs.AuditExists.{append_one, append_nothing, object_at}
use Rattle.ocfl_rules.proofs.StepLaws.{zone_step, reached_step, seen_step}
use Rattle.ocfl_rules.proofs.WayLaws.{is_closed, way_dir, object_short, reached_front}
use Rattle.ocfl_item.proofs.LooksEntries.{nothing_there, declared_listing}

-- ---- tests

-- ---- directories that may be listed

pub listable_dir : (root : StorageRoot) (d : Place) → is_listable root d ≡ true → at root d ≡ Some dir
listable_dir root d h = dir_from_leaf (at root d) (and_second (nat_le (length d) max_listed_depth) (is_dir root d) h)

pub listable_object : (root : StorageRoot) (d : Place) → is_listable root d ≡ true → object_declared root d ≡ declared level.Object (files_in root d)
listable_object root d h =
    ap (λ b. cond b (declared level.Object (files_in root d)) undeclared)
    (and_both (is_dir root d) (nat_le (length d) max_listed_depth) (and_second (nat_le (length d) max_listed_depth) (is_dir root d) h)
    (and_first (nat_le (length d) max_listed_depth) (is_dir root d) h))

-- what a listing declares an object to be
pub declared_object : (root : StorageRoot) (d : Place) (es : List Entry) → is_listable root d ≡ true → IsOrdinary es → IsListing root d es
    → object_declared root d ≡ declared level.Object (file_names es)
declared_object root d es l ordinary h = listable_object root d l ∙ sym (declared_listing root d es ordinary h level.Object)

-- below what is not listed there is no object
undeclared_below : (root : StorageRoot) (e : Place) → is_listable root e ≡ false → (b : Place) → is_declared (object_declared root (e ++ b)) ≡ false
undeclared_below root e h b = false_from_ne_true (is_declared (object_declared root (e ++ b))) (λ d. true_not_false (sym (open_ d) ∙ h))
  where
    above : (c : Place) → at root (e ++ c) ≡ Some dir → at root e ≡ Some dir
    above [] k = ap (at root) (sym (append_nothing e)) ∙ k
    above (m ∷ c) k = way_dir root (is_closed root) e m c dir k

    open_ : is_declared (object_declared root (e ++ b)) ≡ true → is_listable root e ≡ true
    open_ d =
        let short : length (e ++ b) ≤ 127 = leb-true (length (e ++ b)) 127 (object_short root (is_closed root) (e ++ b) d) in
        let whole : length (e ++ b) ≡ length e + length b = length-append e b in
        and_both (nat_le (length e) max_listed_depth) (is_dir root e) (le-leb (length e) 127 (omega (arith, short, whole))) (ap is_dir_leaf (above b (object_at root (e ++ b) d)))

-- ---- no object

abbrev pub is_plain : Zone → Bool
is_plain skipped = true
is_plain hierarchy = true
is_plain (inside o q) = false

plain_step : (root : StorageRoot) (e : Place) (n : Text) → is_plain (zone root e) ≡ true → is_declared (object_declared root (e ++ n ∷ [])) ≡ false → is_plain (zone root (e ++ n ∷ [])) ≡ true
plain_step root e n h k = ap is_plain (zone_step root e n) ∙ by (is_extensions root e n) (zone root e) h
  where
    by : (x : Bool) (z : Zone) → is_plain z ≡ true → is_plain (cond x skipped (step_zone root e n z)) ≡ true
    by true z g = refl
    by false skipped g = refl
    by false hierarchy g = ap (λ b. is_plain (cond b (inside (e ++ n ∷ []) []) hierarchy)) k
    by false (inside o q) g = absurd (true_not_false (sym g))

plain_from : (root : StorageRoot) (e r : Place) → is_plain (zone root e) ≡ true → ((b : Place) → is_declared (object_declared root (e ++ b)) ≡ false) → is_plain (zone root (e ++ r)) ≡ true
plain_from root e [] z h = ap (λ x. is_plain (zone root x)) (append_nothing e) ∙ z
plain_from root e (n ∷ r) z h =
    ap (λ x. is_plain (zone root x)) (sym (append_one e r n))
    ∙ plain_from root (e ++ n ∷ []) r (plain_step root e n z (h (n ∷ []))) (λ b. ap (λ x. is_declared (object_declared root x)) (append_one e b n) ∙ h (n ∷ b))

-- below what is not listed in the hierarchy there is none
pub plain_below : (root : StorageRoot) (d r : Place) (n : Text) → zone root d ≡ hierarchy → is_listable root (d ++ n ∷ []) ≡ false → is_plain (zone root (d ++ n ∷ r)) ≡ true
plain_below root d r n z h =
    let none = undeclared_below root (d ++ n ∷ []) h in
    ap (λ x. is_plain (zone root x)) (sym (append_one d r n))
    ∙ plain_from root (d ++ n ∷ []) r (plain_step root d n (ap is_plain z) (ap (λ x. is_declared (object_declared root x)) (sym (append_nothing (d ++ n ∷ []))) ∙ none [])) none

-- nor in extensions of the storage root
pub plain_extensions : (root : StorageRoot) (d r : Place) (n : Text) → zone root d ≡ hierarchy → is_extensions_name d n ≡ true → is_plain (zone root (d ++ n ∷ r)) ≡ true
plain_extensions root [] r n z h = by (is_dir root (n ∷ [])) refl
  where
    out : (x : Bool) → cond (x || true) skipped (object_zone root [] (n ∷ r)) ≡ skipped
    out true = refl
    out false = refl

    by : (b : Bool) → is_dir root (n ∷ []) ≡ b → is_plain (zone root (n ∷ r)) ≡ true
    by true e =
        let there : is_in_extensions root (n ∷ r) ≡ true = and_both (text_eq n (codes "extensions")) (is_dir root (n ∷ [])) h e in
        ap is_plain (ap (λ b. cond (not (is_known (root_declared root)) || b) skipped (object_zone root [] (n ∷ r))) there ∙ out (not (is_known (root_declared root))))
    by false e = plain_below root [] r n z e
plain_extensions root (m ∷ d) r n z h = absurd (true_not_false (sym h))

-- nor if the root's version is not known
pub plain_unknown : (root : StorageRoot) (p : Place) → is_known (root_declared root) ≡ false → is_plain (zone root p) ≡ true
plain_unknown root p h = ap (λ b. is_plain (cond (not b || is_in_extensions root p) skipped (object_zone root [] p))) h

-- ---- places of an object

pub inside_step : (root : StorageRoot) (d o s : Place) (n : Text) → zone root d ≡ inside o s → zone root (d ++ n ∷ []) ≡ inside o (s ++ n ∷ [])
inside_step root [] o s n z = absurd (by (not (is_known (root_declared root))) z)
  where
    by : (b : Bool) → cond (b || false) skipped hierarchy ≡ inside o s → ⊥
    by true e = cc
    by false e = cc
inside_step root (m ∷ d) o s n z = zone_step root (m ∷ d) n ∙ ap (step_zone root (m ∷ d) n) z

pub inside_on : (root : StorageRoot) (d o s q : Place) → zone root d ≡ inside o s → zone root (d ++ q) ≡ inside o (s ++ q)
inside_on root d o s [] z = ap (zone root) (append_nothing d) ∙ z ∙ ap (inside o) (sym (append_nothing s))
inside_on root d o s (n ∷ q) z =
    ap (zone root) (sym (append_one d q n)) ∙ inside_on root (d ++ n ∷ []) o (s ++ n ∷ []) q (inside_step root d o s n z) ∙ ap (inside o) (append_one s q n)

pub unknown_no_table : (root : StorageRoot) (o : Place) → is_known (object_declared root o) ≡ false → table_at root o ≡ None
unknown_no_table root o h = ap (λ b. option_and_then (λ bytes. cond (nat_le (length bytes) inventory_limit) (table_of bytes) None) (cond b (file_at root (o ++ inventory_name ∷ [])) None)) h

-- ---- entered directories

pub entered_from : (root : StorageRoot) (d : Place) → is_listable root d ≡ true → is_listed_zone root (zone root d) ≡ true → is_entered root d ≡ true
entered_from root d h k = by (nat_le (length d) max_listed_depth) (is_dir root d) h
  where
    by : (a b : Bool) → a && b ≡ true → a && (b && is_listed_zone root (zone root d)) ≡ true
    by true true g = k
    by true false g = absurd (true_not_false (sym g))
    by false b g = absurd (true_not_false (sym g))

pub not_entered : (root : StorageRoot) (d : Place) → is_listable root d ≡ false → is_entered root d ≡ false
not_entered root d h = by (nat_le (length d) max_listed_depth) (is_dir root d) h
  where
    by : (a b : Bool) → a && b ≡ false → a && (b && is_listed_zone root (zone root d)) ≡ false
    by true true g = absurd (true_not_false g)
    by true false g = refl
    by false b g = refl

pub out_of_zone : (root : StorageRoot) (d : Place) → is_listed_zone root (zone root d) ≡ false → is_entered root d ≡ false
out_of_zone root d h = by (nat_le (length d) max_listed_depth) (is_dir root d)
  where
    by : (a b : Bool) → a && (b && is_listed_zone root (zone root d)) ≡ false
    by true true = h
    by true false = refl
    by false b = refl

-- below what is not reached nothing is seen
pub unseen_behind : (root : StorageRoot) (e r : Place) (m : Text) → is_reached root e ≡ false → seen root (e ++ m ∷ r) ≡ None
unseen_behind root e r m h = by (list_all (is_entered root) (beginnings (e ++ m ∷ r))) refl
  where
    by : (b : Bool) → list_all (is_entered root) (beginnings (e ++ m ∷ r)) ≡ b → cond b (at root (e ++ m ∷ r)) None ≡ None
    by false k = refl
    by true k = absurd (true_not_false (sym (reached_front root e m r k) ∙ h))

pub reach_on : (root : StorageRoot) (d : Place) (n : Text) → is_reached root d ≡ true → is_entered root (d ++ n ∷ []) ≡ true → is_reached root (d ++ n ∷ []) ≡ true
reach_on root d n h k = reached_step root d n ∙ and_both (is_reached root d) (is_entered root (d ++ n ∷ [])) h k

-- ---- the storage root

pub root_hierarchy : (root : StorageRoot) → is_known (root_declared root) ≡ true → zone root [] ≡ hierarchy
root_hierarchy root h = ap (λ b. cond (not b || false) skipped hierarchy) h

pub at_root : (root : StorageRoot) (es : List Entry) → is_known (root_declared root) ≡ true → IsListing root [] es → InHierarchy root [] es
at_root root es h listing = record {
  here = record { listing = listing; reached = entered_from root [] refl (ap (is_listed_zone root) (root_hierarchy root h)) };
  zone = root_hierarchy root h;
}

pub declared_root : (root : StorageRoot) (es : List Entry) → IsOrdinary es → IsListing root [] es → root_declared root ≡ declared level.Root (file_names es)
declared_root root es ordinary h = sym (declared_listing root [] es ordinary h level.Root)

-- ---- one name further in the hierarchy

extensions_passed : (root : StorageRoot) (d : Place) (n : Text) → is_extensions_name d n ≡ false → is_extensions root d n ≡ false
extensions_passed root [] n h = ap (λ b. b && is_dir root (n ∷ [])) h
extensions_passed root (m ∷ d) n h = refl

hierarchy_step : (root : StorageRoot) (d : Place) (n : Text) → zone root d ≡ hierarchy → is_extensions_name d n ≡ false
    → zone root (d ++ n ∷ []) ≡ cond (is_declared (object_declared root (d ++ n ∷ []))) (inside (d ++ n ∷ []) []) hierarchy
hierarchy_step root d n z h =
    zone_step root d n ∙ ap (λ b. cond b skipped (step_zone root d n (zone root d))) (extensions_passed root d n h) ∙ ap (step_zone root d n) z

pub hierarchy_on : (root : StorageRoot) (d : Place) (n : Text) (old es : List Entry) → InHierarchy root d old → is_extensions_name d n ≡ false
    → is_listable root (d ++ n ∷ []) ≡ true → IsListing root (d ++ n ∷ []) es → is_declared (object_declared root (d ++ n ∷ [])) ≡ false → InHierarchy root (d ++ n ∷ []) es
hierarchy_on root d n old es h e l listing none =
    let z : zone root (d ++ n ∷ []) ≡ hierarchy = hierarchy_step root d n h.zone e ∙ ap (λ b. cond b (inside (d ++ n ∷ []) []) hierarchy) none in
    record {
      here = record { listing = listing; reached = reach_on root d n h.here.reached (entered_from root (d ++ n ∷ []) l (ap (is_listed_zone root) z)) };
      zone = z;
    }

pub object_zone_here : (root : StorageRoot) (d : Place) (n : Text) (old : List Entry) → InHierarchy root d old → is_extensions_name d n ≡ false
    → is_declared (object_declared root (d ++ n ∷ [])) ≡ true → zone root (d ++ n ∷ []) ≡ inside (d ++ n ∷ []) []
object_zone_here root d n old h e some = hierarchy_step root d n h.zone e ∙ ap (λ b. cond b (inside (d ++ n ∷ []) []) hierarchy) some

-- ---- and in an object

pub open_object : (root : StorageRoot) (o : Place) (es : List Entry) (t : Table) → IsObject root o es → table_at root o ≡ Some t → IsOpenObject root o es t
open_object root o es t h is = record {
  here = record {
    listing = h.listing;
    reached = and_both (list_all (is_entered root) (beginnings o)) (is_entered root o) h.way
        (entered_from root o h.listable (ap (is_listed_zone root) h.zone ∙ ap (λ x. is_listed_in_object x []) is));
  };
  zone = h.zone;
  table = is;
}

pub zone_of_entered : (root : StorageRoot) (d : Place) → is_entered root d ≡ true → is_listed_zone root (zone root d) ≡ true
zone_of_entered root d h = and_second (is_dir root d) (is_listed_zone root (zone root d)) (and_second (nat_le (length d) max_listed_depth) (is_dir root d && is_listed_zone root (zone root d)) h)

-- ---- what is seen

module _ (root : StorageRoot) (d : Place) (n : Text) (es : List Entry) (h : IsAt root d es) where
  seen_here : seen root (d ++ n ∷ []) ≡ at root (d ++ n ∷ [])
  seen_here = seen_step root d n ∙ ap (λ b. cond b (at root (d ++ n ∷ [])) None) h.reached

  pub sight_nothing : None ≡ kind_in es n → IsSight root (d ++ n ∷ []) sight.Nothing
  sight_nothing is = seen_here ∙ nothing_there root d n es h.listing is
