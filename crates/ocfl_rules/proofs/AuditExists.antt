-- The audit fits its description.
use Rattle.std.proofs.Common.{◌≡◌, ◌↔◌, inl, inr, List, [], ◌∷◌, ◌++◌, refl, sym, ◌∙◌, ap, subst, true, false, Bool, map, filter, Option, Some, None, ℕ}
use Rattle.std.specs.Prelude.{◌≢◌, cond, flat_map, not, ◌&&◌, nat_le, length, filter_map, if◌then◌else◌}
use Rattle.std.specs.{List.{AllByRecursion, cons_option}, Ordering.{is_eq}}
use Rattle.std.specs.declared.cmp.Ordering.{Ordering}
use Rattle.std.specs.declared.cmp.Ordering.TheVariants.{Less, Equal, Greater}
use Rattle.ocfl_tree.specs.Place.{Place, Text, place_cmp, place_eq}
use Rattle.ocfl_tree.specs.Ascending.{ascending, IsAscending, IsAmong}
use Rattle.ocfl_tree.specs.StorageRoot.{StorageRoot, Leaf, file, dir, other, lookup, at_below, at, is_dir_leaf}
use Rattle.ocfl_report.specs.Line.{Item}
use Rattle.ocfl_inventory.specs.{Note.{Note, lines_at}, Declaration.{undeclared, declared}}
use Rattle.ocfl_inventory.specs.Table.{Table, Triple, Named, named, paths_of}
use Rattle.ocfl_inventory.specs.declared.declaration.Level.TheVariants.{Object}
use Rattle.ocfl_rules.specs.Zone.{Zone, skipped, hierarchy, inside, object_zone, object_declared, zone, table_at, seen, max_listed_depth, files_in, is_declared}
use Rattle.ocfl_rules.specs.Audit.{has_lines, candidates, named_places}
use Rattle.ocfl_rules.specs.Lines.{is_empty, common_notes, notes_in, hierarchy_notes, missing_notes, within_notes, object_notes}
use Rattle.ocfl_tree.proofs.Orders.{place_cmp_total, place_cmp_exact, true_not_false, among_map, among_left, among_right, among_ascending, among_filter, among_from_filter, ascends_filter, ascends_ascending}

-- ---- places of the tree

pub equal_from_test : (r : Ordering) → is_eq r ≡ true → r ≡ Equal
equal_from_test Less e = cc
equal_from_test Equal e = refl
equal_from_test Greater e = cc

pub place_from_test : (p q : Place) → place_eq p q ≡ true → p ≡ q
place_from_test p q e = place_cmp_exact p q (equal_from_test _ e)

pub some_not_none : {A : Type 0} (x : A) → None ≡ Some x → ⊥
some_not_none x e = cc

pub among_keys : (root : StorageRoot) (p : Place) (leaf : Leaf) → lookup root p ≡ Some leaf → IsAmong (map (λ e. e.0) root) p
among_keys [] p leaf h = absurd (some_not_none leaf h)
among_keys (e ∷ root) p leaf h = by (place_eq e.0 p) refl h (among_keys root p leaf)
  where
    by : (b : Bool) → place_eq e.0 p ≡ b → cond b (Some e.1) (lookup root p) ≡ Some leaf → (lookup root p ≡ Some leaf → IsAmong (map (λ e. e.0) root) p) → IsAmong (map (λ e. e.0) (e ∷ root)) p
    by true f g k = inl (sym (place_from_test e.0 p f))
    by false f g k = inr (k g)

pub append_one : (front rest : Place) (n : Text) → (front ++ n ∷ []) ++ rest ≡ front ++ n ∷ rest
append_one [] rest n = refl
append_one (m ∷ front) rest n = ap (λ p. m ∷ p) (append_one front rest n)

at_below_lookup : (root : StorageRoot) (front : Place) (n : Text) (p : Place) (leaf : Leaf) → at_below root front n p ≡ Some leaf → lookup root (front ++ n ∷ p) ≡ Some leaf
at_below_lookup root front n [] leaf h = h
at_below_lookup root front n (m ∷ p) leaf h = by (is_dir_leaf (lookup root (front ++ n ∷ []))) h (at_below_lookup root (front ++ n ∷ []) m p leaf)
  where
    by : (b : Bool) → cond b (at_below root (front ++ n ∷ []) m p) None ≡ Some leaf
        → (at_below root (front ++ n ∷ []) m p ≡ Some leaf → lookup root ((front ++ n ∷ []) ++ m ∷ p) ≡ Some leaf) → lookup root (front ++ n ∷ m ∷ p) ≡ Some leaf
    by true e k = ap (lookup root) (sym (append_one front (m ∷ p) n)) ∙ k e
    by false e k = absurd (some_not_none leaf e)

pub at_lookup : (root : StorageRoot) (n : Text) (p : Place) (leaf : Leaf) → at root (n ∷ p) ≡ Some leaf → lookup root (n ∷ p) ≡ Some leaf
at_lookup root n p leaf h = at_below_lookup root [] n p leaf h

-- a place at which there is something is a candidate
pub at_candidate : (root : StorageRoot) (p : Place) (leaf : Leaf) → at root p ≡ Some leaf → IsAmong (candidates root) p
at_candidate root [] leaf h = among_left ([] ∷ map (λ e. e.0) root) _ [] (inl refl)
at_candidate root (n ∷ p) leaf h = among_left ([] ∷ map (λ e. e.0) root) _ (n ∷ p) (inr (among_keys root (n ∷ p) leaf (at_lookup root n p leaf h)))

pub seen_candidate : (root : StorageRoot) (p : Place) (leaf : Leaf) → seen root p ≡ Some leaf → IsAmong (candidates root) p
seen_candidate root p leaf h = by _ h
  where
    by : (b : Bool) → cond b (at root p) None ≡ Some leaf → IsAmong (candidates root) p
    by true e = at_candidate root p leaf e
    by false e = absurd (some_not_none leaf e)

-- ---- objects

pub not_empty : (front : Place) (n : Text) → front ++ n ∷ [] ≢ []
not_empty [] n e = cc
not_empty (m ∷ front) n e = cc

pub record IsInside (root : StorageRoot) (p o q : Place) : Type 0 where
  pub whole : p ≡ o ++ q
  pub declares : is_declared (object_declared root o) ≡ true
  pub below : o ≢ []

pub object_zone_is : (root : StorageRoot) (front rest o q : Place) → object_zone root front rest ≡ inside o q → IsInside root (front ++ rest) o q
object_zone_is root front [] o q h = absurd cc
object_zone_is root front (n ∷ rest) o q h = by (is_declared (object_declared root (front ++ n ∷ []))) refl h (object_zone_is root (front ++ n ∷ []) rest o q)
  where
    here : is_declared (object_declared root (front ++ n ∷ [])) ≡ true → front ++ n ∷ [] ≡ o → rest ≡ q → IsInside root (front ++ n ∷ rest) o q
    here d e f = record {
      whole = sym (append_one front rest n) ∙ (λ i. e i ++ f i);
      declares = subst (λ x. is_declared (object_declared root x) ≡ true) e d;
      below = subst (λ x. x ≢ []) e (not_empty front n);
    }

    by : (b : Bool) → is_declared (object_declared root (front ++ n ∷ [])) ≡ b → cond b (inside (front ++ n ∷ []) rest) (object_zone root (front ++ n ∷ []) rest) ≡ inside o q
        → (object_zone root (front ++ n ∷ []) rest ≡ inside o q → IsInside root ((front ++ n ∷ []) ++ rest) o q) → IsInside root (front ++ n ∷ rest) o q
    by true d e k = let a : front ++ n ∷ [] ≡ o = cc in let b : rest ≡ q = cc in here d a b
    by false d e k = subst (λ p. IsInside root p o q) (append_one front rest n) (k e)

pub zone_is : (root : StorageRoot) (p o q : Place) → zone root p ≡ inside o q → IsInside root p o q
zone_is root p o q h = by _ h
  where
    by : (b : Bool) → cond b skipped (object_zone root [] p) ≡ inside o q → IsInside root p o q
    by true e = absurd cc
    by false e = object_zone_is root [] p o q e

-- a declared object is a place of the tree
pub object_at : (root : StorageRoot) (o : Place) → is_declared (object_declared root o) ≡ true → at root o ≡ Some dir
object_at root o d = by (at root o) refl d
  where
    by : (leaf : Option Leaf) → at root o ≡ leaf
        → is_declared (cond (is_dir_leaf leaf && nat_le (length o) max_listed_depth) (declared Object (files_in root o)) undeclared) ≡ true → at root o ≡ Some dir
    by None e h = absurd (true_not_false (sym h))
    by (Some (file bytes)) e h = absurd (true_not_false (sym h))
    by (Some dir) e h = e
    by (Some other) e h = absurd (true_not_false (sym h))

pub object_key : (root : StorageRoot) (o : Place) → o ≢ [] → at root o ≡ Some dir → IsAmong (map (λ e. e.0) root) o
object_key root [] below h = absurd (below refl)
object_key root (n ∷ o) below h = among_keys root (n ∷ o) dir (at_lookup root n o dir h)

-- ---- a place with lines is a candidate

named_among : (q : Place) (ts : List Triple) (n : Named) → IsAmong (filter_map (λ e. if place_eq e.path q then Some e.named else None) ts) n → IsAmong (map (λ e. e.path) ts) q
named_among q [] n i = absurd i
named_among q (e ∷ ts) n i = by (place_eq e.path q) refl i (named_among q ts n)
  where
    by : (b : Bool) → place_eq e.path q ≡ b
        → IsAmong (cons_option (cond b (Some e.named) None) (filter_map (λ x. if place_eq x.path q then Some x.named else None) ts)) n
        → (IsAmong (filter_map (λ x. if place_eq x.path q then Some x.named else None) ts) n → IsAmong (map (λ x. x.path) ts) q) → IsAmong (map (λ x. x.path) (e ∷ ts)) q
    by true f j k = inl (sym (place_from_test e.path q f))
    by false f j k = inr (k j)

-- a path with a named digest is a path of the table
pub path_among : (t : Table) (q : Place) → named t q ≢ [] → IsAmong (paths_of t) q
path_among t q h = by (named t q) refl
  where
    by : (ns : List Named) → named t q ≡ ns → IsAmong (paths_of t) q
    by [] e = absurd (h e)
    by (n ∷ ns) e = named_among q t.triples n (subst (λ xs. IsAmong xs n) (sym e) (inl refl))

pub path_candidate : (root : StorageRoot) (o q : Place) (t : Table) → table_at root o ≡ Some t → IsAmong (map (λ e. e.0) root) o → IsAmong (paths_of t) q → IsAmong (candidates root) (o ++ q)
path_candidate root o q t h key path = among_right ([] ∷ map (λ e. e.0) root) _ (o ++ q) (by root key)
  where
    here : IsAmong (named_places root o) (o ++ q)
    here = subst (λ r. IsAmong (elim r [ None ↦ [] | Some t' ↦ map (λ x. o ++ x) (paths_of t') ]) (o ++ q)) (sym h) (among_map (λ x. o ++ x) (paths_of t) q path)

    by : (es : StorageRoot) → IsAmong (map (λ e. e.0) es) o → IsAmong (flat_map (λ e. named_places root e.0) es) (o ++ q)
    by [] i = absurd i
    by (e ∷ es) (inl f) = among_left (named_places root e.0) _ (o ++ q) (subst (λ x. IsAmong (named_places root x) (o ++ q)) f here)
    by (e ∷ es) (inr i) = among_right (named_places root e.0) _ (o ++ q) (by es i)

pub missing_named : (ns : List Named) → missing_notes ns ≢ [] → ns ≢ []
missing_named ns h e = h (ap missing_notes e)

-- lines within an object are at a place of the tree, or at one that the table names
within_candidate : (root : StorageRoot) (p o q : Place) (t : Table) → table_at root o ≡ Some t → p ≡ o ++ q → IsAmong (map (λ e. e.0) root) o
    → (leaf : Option Leaf) → seen root p ≡ leaf → (u : Option ℕ) → within_notes root p u leaf t q ≢ [] → IsAmong (candidates root) p
within_candidate root p o q t h whole key (Some leaf) e u some = seen_candidate root p leaf e
within_candidate root p o [] t h whole key None e u some = absurd (some refl)
within_candidate root p o (v ∷ []) t h whole key None e u some = absurd (some refl)
within_candidate root p o (v ∷ c ∷ []) t h whole key None e u some = absurd (some refl)
within_candidate root p o (v ∷ c ∷ n ∷ q) t h whole key None e u some =
    subst (IsAmong (candidates root)) (sym whole) (path_candidate root o (v ∷ c ∷ n ∷ q) t h key (path_among t (v ∷ c ∷ n ∷ q) (missing_named _ some)))

object_candidate : (root : StorageRoot) (p o q : Place) (u : Option ℕ) → p ≡ o ++ q → IsAmong (map (λ e. e.0) root) o → (table : Option Table)
    → table_at root o ≡ table → object_notes root p u table q ≢ [] → IsAmong (candidates root) p
object_candidate root p o q u whole key None e some = absurd (some refl)
object_candidate root p o q u whole key (Some t) e some = within_candidate root p o q t e whole key (seen root p) refl u some

pub append_nothing : (p : Place) → p ++ [] ≡ p
append_nothing [] = refl
append_nothing (n ∷ p) = ap (λ q. n ∷ q) (append_nothing p)

zone_candidate : (root : StorageRoot) (p : Place) (u : Option ℕ) (z : Zone) → zone root p ≡ z → notes_in root p u z ≢ [] → IsAmong (candidates root) p
zone_candidate root p u skipped e some = absurd (some refl)
zone_candidate root p u hierarchy e some = by (seen root p) refl some
  where
    by : (leaf : Option Leaf) → seen root p ≡ leaf → hierarchy_notes root p leaf ≢ [] → IsAmong (candidates root) p
    by None f g = absurd (g refl)
    by (Some leaf) f g = seen_candidate root p leaf f
zone_candidate root p u (inside o []) e some =
    let is = zone_is root p o [] e in
    let there : p ≡ o = is.whole ∙ append_nothing o in
    at_candidate root p dir (subst (λ x. at root x ≡ Some dir) (sym there) (object_at root o is.declares))
zone_candidate root p u (inside o (n ∷ q)) e some =
    let is = zone_is root p o (n ∷ q) e in
    object_candidate root p o (n ∷ q) u is.whole (object_key root o is.below (object_at root o is.declares)) (table_at root o) refl some

pub common_candidate : (root : StorageRoot) (u : Option ℕ) (p : Place) → common_notes root u p ≢ [] → IsAmong (candidates root) p
common_candidate root u [] some = among_left ([] ∷ map (λ e. e.0) root) _ [] (inl refl)
common_candidate root u (n ∷ p) some = zone_candidate root (n ∷ p) u (zone root (n ∷ p)) refl some

-- ---- the audit

pub lines_from_notes : (p : Place) (ns : List Note) → (not (is_empty (lines_at p ns)) ≡ true) ↔ (ns ≢ [])
lines_from_notes p [] = (λ e. absurd (true_not_false (sym e)), λ h. absurd (h refl))
lines_from_notes p (n ∷ ns) = (λ e f. cc, λ h. refl)

-- the items that some places have, by their lines and costs
module _ (lines : Place → List Note) (costs : Place → ℕ) where
  abbrev made : Place → Item
  made p = record { place = p; lines = lines_at p (lines p); cost = costs p }

  places_kept : (ps : List Place) → map (λ i. i.place) (filter has_lines (map made ps)) ≡ filter (λ p. has_lines (made p)) ps
  places_kept [] = refl
  places_kept (p ∷ ps) = by (has_lines (made p)) (places_kept ps)
    where
      by : (b : Bool) → map (λ i. i.place) (filter has_lines (map made ps)) ≡ filter (λ q. has_lines (made q)) ps
          → map (λ i. i.place) (cond b (made p ∷ filter has_lines (map made ps)) (filter has_lines (map made ps)))
          ≡ cond b (p ∷ filter (λ q. has_lines (made q)) ps) (filter (λ q. has_lines (made q)) ps)
      by true e = ap (λ x. p ∷ x) e
      by false e = e

  each_kept : (ps : List Place) → AllByRecursion (λ i. i ≡ made i.place) (filter has_lines (map made ps))
  each_kept [] = tt
  each_kept (p ∷ ps) = by (has_lines (made p)) (each_kept ps)
    where
      by : (b : Bool) → AllByRecursion (λ i. i ≡ made i.place) (filter has_lines (map made ps))
          → AllByRecursion (λ i. i ≡ made i.place) (cond b (made p ∷ filter has_lines (map made ps)) (filter has_lines (map made ps)))
      by true k = (refl, k)
      by false k = k

  -- those of places among which are all that have lines
  pub made_items : (cs : List Place) → ((p : Place) → lines p ≢ [] → IsAmong cs p)
      → IsAscending place_cmp (map (λ i. i.place) (filter has_lines (map made (ascending place_cmp cs))))
      × AllByRecursion (λ i. i ≡ made i.place) (filter has_lines (map made (ascending place_cmp cs)))
      × ((p : Place) → IsAmong (map (λ i. i.place) (filter has_lines (map made (ascending place_cmp cs)))) p ↔ (lines p ≢ []))
  made_items cs all = (
    subst (IsAscending place_cmp) (sym (places_kept _)) (ascends_filter place_cmp (λ p. has_lines (made p)) _ (ascends_ascending place_cmp_total cs)),
    each_kept _,
    λ p. (
      (λ i. (lines_from_notes p _).0 (among_from_filter (λ x. has_lines (made x)) (ascending place_cmp cs) p (subst (λ xs. IsAmong xs p) (places_kept _) i)).1),
      (λ h. subst (λ xs. IsAmong xs p) (sym (places_kept _))
          (among_filter (λ x. has_lines (made x)) (ascending place_cmp cs) p ((among_ascending place_cmp_exact cs p).0 (all p h)) ((lines_from_notes p _).1 h))),
    ),
  )
