-- The way down to each item: every name on it is seen by a listing, or is in a table.
use Rattle.std.proofs.Common.{◌≡◌, ◌≢◌, ◌⊎◌, inl, inr, ℕ, ◌+◌, ◌≤◌, List, [], ◌∷◌, ◌++◌, refl, sym, ◌∙◌, ap, subst, true, false, Bool, map, Option, Some, None, arith, length, append_assoc}
use Rattle.std.proofs.{lemmas.Bool.{leb-true, le-leb}, lemmas.List.{length-append}}
use Rattle.std.proofs.Math.Bool.{and_assoc}
use Rattle.std.specs.Prelude.{cond, ◌&&◌, ◌||◌, not, nat_le, filter_map}
use Rattle.std.specs.List.{list_all, cons_option}
use Rattle.ocfl_tree.specs.{Place.{Place, Text, child_name}, Ascending.{IsAmong}}
use Rattle.ocfl_tree.specs.StorageRoot.{StorageRoot, Leaf, dir, lookup, at, is_dir, is_dir_leaf, names_in}
use Rattle.ocfl_inventory.specs.{Declaration.{undeclared, declared}, Table.{Table, paths_of}}
use Rattle.ocfl_inventory.specs.declared.declaration.Level.TheVariants.{Object}
use Rattle.ocfl_rules.specs.Zone.{Zone, skipped, hierarchy, inside, object_zone, object_declared, root_declared, is_in_extensions, zone, table_at, seen, max_listed_depth, is_entered, is_listed_zone, beginnings, files_in, is_known, is_declared}
use Rattle.ocfl_rules.specs.Lines.{common_notes, notes_in, hierarchy_notes, within_notes, object_notes}
use Rattle.ocfl_rules.specs.Walk.{is_reached, seen_names, next_name, names_of_table, path_names_in, path_names, names_below, IsClosed, step_zone}
use Rattle.ocfl_tree.proofs.Bools.{and_first, and_second, and_both}
use Rattle.ocfl_tree.proofs.{Orders.{true_not_false, among_ascending, among_left, among_right}, Trees.{at-append, dir_from_leaf}}
use Rattle.ocfl_tree.proofs.Places.{child_name-append}
use Rattle.ocfl_rules.proofs.AuditExists.{some_not_none, append_one, append_nothing, not_empty, among_keys, at_lookup, object_at, zone_is, path_among, missing_named}
use Rattle.ocfl_rules.proofs.StepLaws.{object_zone_step, all_beginnings_step, all_map}
use Rattle.ocfl_rules.proofs.BelowLaws.{text_cmp_exact, text_eq-same}

-- ---- beginnings

-- the proper beginnings of a longer place
pub all_beginnings_append : (test : Place → Bool) (d r : Place) → list_all test (beginnings (d ++ r)) ≡ list_all test (beginnings d) && list_all (λ q. test (d ++ q)) (beginnings r)
all_beginnings_append test [] r = refl
all_beginnings_append test (m ∷ d) r =
    ap (λ b. test [] && b) (all_map (λ q. m ∷ q) test (beginnings (d ++ r)) ∙ all_beginnings_append (λ q. test (m ∷ q)) d r
    ∙ ap (λ b. b && list_all (λ q. test (m ∷ (d ++ q))) (beginnings r)) (sym (all_map (λ q. m ∷ q) test (beginnings d))))
    ∙ sym (and_assoc (test []) (list_all test (map (λ q. m ∷ q) (beginnings d))) (list_all (λ q. test (m ∷ (d ++ q))) (beginnings r)))

-- what is on an entered way is entered
pub reached_front : (root : StorageRoot) (d : Place) (n : Text) (r : Place) → list_all (is_entered root) (beginnings (d ++ n ∷ r)) ≡ true → is_reached root d ≡ true
reached_front root d n r h =
    let both : list_all (is_entered root) (beginnings d) && list_all (λ q. is_entered root (d ++ q)) (beginnings (n ∷ r)) ≡ true = sym (all_beginnings_append (is_entered root) d (n ∷ r)) ∙ h in
    let later : is_entered root (d ++ []) ≡ true = and_first (is_entered root (d ++ [])) _ (and_second (list_all (is_entered root) (beginnings d)) _ both) in
    and_both (list_all (is_entered root) (beginnings d)) (is_entered root d) (and_first (list_all (is_entered root) (beginnings d)) _ both) (ap (is_entered root) (sym (append_nothing d)) ∙ later)

-- ---- entries

among_filter_map : {A B : Type 0} (h : A → Option B) (xs : List A) (x : A) (y : B) → IsAmong xs x → h x ≡ Some y → IsAmong (filter_map h xs) y
among_filter_map h [] x y i e = absurd i
among_filter_map {B = B} h (z ∷ xs) x y (inl f) e = subst (λ o. IsAmong (cons_option o (filter_map h xs)) y) (sym e ∙ ap h f) (inl refl)
among_filter_map {B = B} h (z ∷ xs) x y (inr i) e = by (h z) (among_filter_map h xs x y i e)
  where
    by : (o : Option B) → IsAmong (filter_map h xs) y → IsAmong (cons_option o (filter_map h xs)) y
    by None k = k
    by (Some w) k = inr k

next_is : (d : Place) (n : Text) (r : Place) → next_name d (d ++ n ∷ r) ≡ Some n
next_is [] n r = refl
next_is (m ∷ d) n r = ap (λ b. cond b (next_name d (d ++ n ∷ r)) None) (text_eq-same m) ∙ next_is d n r

at_key : (root : StorageRoot) (p : Place) (leaf : Leaf) → p ≢ [] → at root p ≡ Some leaf → IsAmong (map (λ e. e.0) root) p
at_key root [] leaf some h = absurd (some refl)
at_key root (n ∷ p) leaf some h = among_keys root (n ∷ p) leaf (at_lookup root n p leaf h)

entry_from_key : (d : Place) (n : Text) (root : StorageRoot) → IsAmong (map (λ e. e.0) root) (d ++ n ∷ []) → IsAmong (filter_map (λ e. child_name d e.0) root) n
entry_from_key d n [] i = absurd i
entry_from_key d n (e ∷ root) (inl f) = subst (λ o. IsAmong (cons_option o (filter_map (λ x. child_name d x.0) root)) n) (sym (child_name-append d n) ∙ ap (child_name d) f) (inl refl)
entry_from_key d n (e ∷ root) (inr i) = by (child_name d e.0) (entry_from_key d n root i)
  where
    by : (o : Option Text) → IsAmong (filter_map (λ x. child_name d x.0) root) n → IsAmong (cons_option o (filter_map (λ x. child_name d x.0) root)) n
    by None k = k
    by (Some w) k = inr k

-- what is in a directory is named there
pub entry_named : (root : StorageRoot) (d : Place) (n : Text) (leaf : Leaf) → at root (d ++ n ∷ []) ≡ Some leaf → IsAmong (names_in root d) n
entry_named root d n leaf h = (among_ascending text_cmp_exact (filter_map (λ e. child_name d e.0) root) n).0 (entry_from_key d n root (at_key root (d ++ n ∷ []) leaf (not_empty d n) h))

-- ---- what is one name further

-- above each place there is a directory
pub is_closed : (root : StorageRoot) → IsClosed root
is_closed root d n leaf h = by (is_dir_leaf (at root d)) refl (sym (at-append root d n) ∙ h)
  where
    by : (b : Bool) → is_dir_leaf (at root d) ≡ b → cond b (lookup root (d ++ n ∷ [])) None ≡ Some leaf → at root d ≡ Some dir
    by true e f = dir_from_leaf (at root d) e
    by false e f = absurd (some_not_none leaf f)

-- ---- closed trees

module _ (root : StorageRoot) (closed : IsClosed root) where
  pub way_dir : (d : Place) (n : Text) (r : Place) (leaf : Leaf) → at root (d ++ n ∷ r) ≡ Some leaf → at root d ≡ Some dir
  way_dir d n [] leaf h = closed d n leaf h
  way_dir d n (m ∷ r) leaf h = closed d n dir (way_dir (d ++ n ∷ []) m r leaf (ap (at root) (append_one d (m ∷ r) n) ∙ h))

  way_leaf : (d : Place) (n : Text) (r : Place) (leaf : Leaf) → at root (d ++ n ∷ r) ≡ Some leaf → (l : Leaf) × (at root (d ++ n ∷ []) ≡ Some l)
  way_leaf d n [] leaf h = (leaf, h)
  way_leaf d n (m ∷ r) leaf h = (dir, way_dir (d ++ n ∷ []) m r leaf (ap (at root) (append_one d (m ∷ r) n) ∙ h))

  -- the names on the way to what is seen are seen
  pub seen_way : (d : Place) (n : Text) (r : Place) (leaf : Leaf) → seen root (d ++ n ∷ r) ≡ Some leaf → IsAmong (seen_names root d) n
  seen_way d n r leaf h = by (list_all (is_entered root) (beginnings (d ++ n ∷ r))) refl h
    where
      by : (b : Bool) → list_all (is_entered root) (beginnings (d ++ n ∷ r)) ≡ b → cond b (at root (d ++ n ∷ r)) None ≡ Some leaf → IsAmong (seen_names root d) n
      by false e f = absurd (some_not_none leaf f)
      by true e f = let l = way_leaf d n r leaf f in subst (λ b. IsAmong (cond b (names_in root d) []) n) (sym (reached_front root d n r e)) (entry_named root d n l.0 l.1)

  -- ---- the way to an object

  pub object_short : (o : Place) → is_declared (object_declared root o) ≡ true → nat_le (length o) max_listed_depth ≡ true
  object_short o d = by (is_dir root o) (nat_le (length o) max_listed_depth) refl d
    where
      by : (a b : Bool) → nat_le (length o) max_listed_depth ≡ b → is_declared (cond (a && b) (declared Object (files_in root o)) undeclared) ≡ true → nat_le (length o) max_listed_depth ≡ true
      by true true e h = e
      by true false e h = absurd (true_not_false (sym h))
      by false b e h = absurd (true_not_false (sym h))

  object_beyond : (front rest o q : Place) → object_zone root front rest ≡ inside o q → (s : Place) × (o ≡ front ++ s)
  object_beyond front [] o q h = absurd cc
  object_beyond front (n ∷ rest) o q h = by (is_declared (object_declared root (front ++ n ∷ []))) h (object_beyond (front ++ n ∷ []) rest o q)
    where
      later : (s : Place) × (o ≡ (front ++ n ∷ []) ++ s) → (s : Place) × (o ≡ front ++ s)
      later k = (n ∷ k.0, k.1 ∙ append_one front k.0 n)

      by : (b : Bool) → cond b (inside (front ++ n ∷ []) rest) (object_zone root (front ++ n ∷ []) rest) ≡ inside o q
          → (object_zone root (front ++ n ∷ []) rest ≡ inside o q → (s : Place) × (o ≡ (front ++ n ∷ []) ++ s)) → (s : Place) × (o ≡ front ++ s)
      by true e k = let a : o ≡ front ++ n ∷ [] = cc in (n ∷ [], a)
      by false e k = later (k e)

  front_short : (front : Place) (n : Text) (s o : Place) → o ≡ front ++ n ∷ s → nat_le (length o) max_listed_depth ≡ true → nat_le (length front) max_listed_depth ≡ true
  front_short front n s o e h =
      let long : length o ≤ 127 = leb-true (length o) 127 h in
      let whole : length o ≡ length front + length (n ∷ s) = ap length e ∙ length-append front (n ∷ s) in
      le-leb (length front) 127 (omega (arith, long, whole))

  -- a directory above an object is entered
  front_entered : (front : Place) (n : Text) (s o : Place) → o ≡ front ++ n ∷ s → is_declared (object_declared root o) ≡ true → zone root front ≡ hierarchy → is_entered root front ≡ true
  front_entered front n s o e d z =
      let there : at root (front ++ n ∷ s) ≡ Some dir = ap (at root) (sym e) ∙ object_at root o d in
      and_both (nat_le (length front) max_listed_depth) (is_dir root front && is_listed_zone root (zone root front)) (front_short front n s o e (object_short o d))
      (and_both (is_dir root front) (is_listed_zone root (zone root front)) (ap is_dir_leaf (way_dir front n s dir there)) (ap (is_listed_zone root) z))

  reach_object : (front rest o q : Place) → object_zone root front rest ≡ inside o q → object_zone root [] front ≡ hierarchy
      → ((b r : Place) → front ++ rest ≡ b ++ r → zone root b ≡ object_zone root [] b)
      → is_declared (object_declared root o) ≡ true → list_all (is_entered root) (beginnings front) ≡ true → list_all (is_entered root) (beginnings o) ≡ true
  reach_object front [] o q h z open_ d way = absurd cc
  reach_object front (n ∷ rest) o q h z open_ d way = by (is_declared (object_declared root (front ++ n ∷ []))) refl h (reach_object (front ++ n ∷ []) rest o q)
    where
      beyond : (s : Place) × (o ≡ (front ++ n ∷ []) ++ s) → (s : Place) × (o ≡ front ++ n ∷ s)
      beyond k = (k.0, k.1 ∙ append_one front k.0 n)

      farther : (s : Place) × (o ≡ front ++ n ∷ s) → list_all (is_entered root) (beginnings (front ++ n ∷ [])) ≡ true
      farther k = all_beginnings_step (is_entered root) front n ∙ and_both (list_all (is_entered root) (beginnings front)) (is_entered root front) way
          (front_entered front n k.0 o k.1 d (open_ front (n ∷ rest) refl ∙ z))

      by : (b : Bool) → is_declared (object_declared root (front ++ n ∷ [])) ≡ b → cond b (inside (front ++ n ∷ []) rest) (object_zone root (front ++ n ∷ []) rest) ≡ inside o q
          → (object_zone root (front ++ n ∷ []) rest ≡ inside o q → object_zone root [] (front ++ n ∷ []) ≡ hierarchy
          → ((b r : Place) → (front ++ n ∷ []) ++ rest ≡ b ++ r → zone root b ≡ object_zone root [] b)
          → is_declared (object_declared root o) ≡ true → list_all (is_entered root) (beginnings (front ++ n ∷ [])) ≡ true → list_all (is_entered root) (beginnings o) ≡ true)
          → list_all (is_entered root) (beginnings o) ≡ true
      by true e f k = let a : o ≡ front ++ n ∷ [] = cc in ap (λ x. list_all (is_entered root) (beginnings x)) a ∙ farther ([], a)
      by false e f k =
          k f (object_zone_step root [] front n ∙ ap (step_zone root front n) z ∙ ap (λ b. cond b (inside (front ++ n ∷ []) []) hierarchy) e)
          (λ b r g. open_ b r (sym (append_one front rest n) ∙ g)) d
          (farther (beyond (object_beyond (front ++ n ∷ []) rest o q f)))

  -- ---- zones of what is above

  zone_open : (p o q b r : Place) → zone root p ≡ inside o q → p ≡ b ++ r → zone root b ≡ object_zone root [] b
  zone_open p o q b r h e = by (not (is_known (root_declared root))) (ap (zone root) (sym e) ∙ h)
    where
      named_by : (x : Bool) → (b r : Place) → cond (x || is_in_extensions root (b ++ r)) skipped (object_zone root [] (b ++ r)) ≡ inside o q
          → cond (x || is_in_extensions root b) skipped (object_zone root [] b) ≡ object_zone root [] b
      named_by true b r f = absurd cc
      named_by false [] r f = refl
      named_by false (n ∷ b) r f = go (is_in_extensions root (n ∷ b)) f
        where
          go : (y : Bool) → cond y skipped (object_zone root [] (n ∷ (b ++ r))) ≡ inside o q → cond y skipped (object_zone root [] (n ∷ b)) ≡ object_zone root [] (n ∷ b)
          go true g = absurd cc
          go false g = refl

      by : (x : Bool) → cond (x || is_in_extensions root (b ++ r)) skipped (object_zone root [] (b ++ r)) ≡ inside o q
          → cond (x || is_in_extensions root b) skipped (object_zone root [] b) ≡ object_zone root [] b
      by x f = named_by x b r f

  object_zone_from : (p o q : Place) → zone root p ≡ inside o q → object_zone root [] p ≡ inside o q
  object_zone_from p o q h = sym (zone_open p o q p [] h (sym (append_nothing p))) ∙ h

  -- an object with items is seen
  pub head_seen : (p o q : Place) → zone root p ≡ inside o q → seen root o ≡ Some dir
  head_seen p o q h =
      let is = zone_is root p o q h in
      let way : list_all (is_entered root) (beginnings o) ≡ true = reach_object [] p o q (object_zone_from p o q h) refl (λ b r e. zone_open p o q b r h e) is.declares refl in
      ap (λ b. cond b (at root o) None) way ∙ object_at root o is.declares

  object_zone_part : (front rest o q s : Place) → object_zone root front rest ≡ inside o (q ++ s) → (r : Place) × ((front ++ r ≡ o ++ q) × (object_zone root front r ≡ inside o q))
  object_zone_part front [] o q s h = absurd cc
  object_zone_part front (n ∷ rest) o q s h = by (is_declared (object_declared root (front ++ n ∷ []))) refl h (object_zone_part (front ++ n ∷ []) rest o q s)
    where
      later : is_declared (object_declared root (front ++ n ∷ [])) ≡ false → (r : Place)
          × (((front ++ n ∷ []) ++ r ≡ o ++ q) × (object_zone root (front ++ n ∷ []) r ≡ inside o q)) → (r : Place) × ((front ++ r ≡ o ++ q) × (object_zone root front r ≡ inside o q))
      later e k = (n ∷ k.0, (sym (append_one front k.0 n) ∙ k.1.0, ap (λ b. cond b (inside (front ++ n ∷ []) k.0) (object_zone root (front ++ n ∷ []) k.0)) e ∙ k.1.1))

      by : (b : Bool) → is_declared (object_declared root (front ++ n ∷ [])) ≡ b → cond b (inside (front ++ n ∷ []) rest) (object_zone root (front ++ n ∷ []) rest) ≡ inside o (q ++ s)
          → (object_zone root (front ++ n ∷ []) rest ≡ inside o (q ++ s) → (r : Place) × (((front ++ n ∷ []) ++ r ≡ o ++ q) × (object_zone root (front ++ n ∷ []) r ≡ inside o q)))
          → (r : Place) × ((front ++ r ≡ o ++ q) × (object_zone root front r ≡ inside o q))
      by true e f k =
          let a : front ++ n ∷ [] ≡ o = cc in
          (n ∷ q, (sym (append_one front q n) ∙ ap (λ x. x ++ q) a, ap (λ b. cond b (inside (front ++ n ∷ []) q) (object_zone root (front ++ n ∷ []) q)) e ∙ ap (λ x. inside x q) a))
      by false e f k = later e (k f)

  -- the zone of what is above within the object
  pub zone_part : (p o q s : Place) → zone root p ≡ inside o (q ++ s) → zone root (o ++ q) ≡ inside o q
  zone_part p o q s h =
      let is = zone_is root p o (q ++ s) h in
      let k = object_zone_part [] p o q s (object_zone_from p o (q ++ s) h) in
      zone_open p o (q ++ s) (o ++ q) s h (is.whole ∙ sym (append_assoc o q s)) ∙ ap (object_zone root []) (sym k.1.0) ∙ k.1.1

-- one of two beginnings of a place begins the other
split_append : (d : Place) (n : Text) (r o q : Place) → d ++ n ∷ r ≡ o ++ q → ((x : Place) × ((d ≡ o ++ x) × (q ≡ x ++ n ∷ r))) ⊎ ((s : Place) × (o ≡ d ++ n ∷ s))
split_append d n r [] q h = inl (d, (refl, sym h))
split_append [] n r (m ∷ o) q h = let e : m ≡ n = cc in inr (o, ap (λ x. x ∷ o) e)
split_append (a ∷ d) n r (m ∷ o) q h = let e : a ≡ m = cc in let f : d ++ n ∷ r ≡ o ++ q = cc in by e (split_append d n r o q f)
  where
    by : a ≡ m → ((x : Place) × ((d ≡ o ++ x) × (q ≡ x ++ n ∷ r))) ⊎ ((s : Place) × (o ≡ d ++ n ∷ s))
        → ((x : Place) × ((a ∷ d ≡ m ∷ o ++ x) × (q ≡ x ++ n ∷ r))) ⊎ ((s : Place) × (m ∷ o ≡ a ∷ d ++ n ∷ s))
    by e (inl k) = inl (k.0, ((λ i. e i ∷ k.1.0 i), k.1.1))
    by e (inr k) = inr (k.0, λ i. sym e i ∷ k.1 i)

-- ---- every item is on a way of names

module _ (root : StorageRoot) (closed : IsClosed root) where
  seen_below : (d : Place) (n : Text) → IsAmong (seen_names root d) n → IsAmong (names_below root d) n
  seen_below d n i = (among_ascending text_cmp_exact (seen_names root d ++ path_names root d) n).0 (among_left (seen_names root d) (path_names root d) n i)

  path_below : (d : Place) (n : Text) → IsAmong (path_names root d) n → IsAmong (names_below root d) n
  path_below d n i = (among_ascending text_cmp_exact (seen_names root d ++ path_names root d) n).0 (among_right (seen_names root d) (path_names root d) n i)

  way_of_seen : (p : Place) (leaf : Leaf) → seen root p ≡ Some leaf → (d : Place) (n : Text) (r : Place) → p ≡ d ++ n ∷ r → IsAmong (names_below root d) n
  way_of_seen p leaf h d n r e = seen_below d n (seen_way root closed d n r leaf (ap (seen root) (sym e) ∙ h))

  -- a path of a table
  way_of_path : (p o q : Place) (t : Table) → zone root p ≡ inside o q → table_at root o ≡ Some t → IsAmong (paths_of t) q → (d : Place) (n : Text) (r : Place)
      → p ≡ d ++ n ∷ r → IsAmong (names_below root d) n
  way_of_path p o q t z h path d n r e = by (split_append d n r o q (sym e ∙ (zone_is root p o q z).whole))
    where
      inner : (x : Place) → d ≡ o ++ x → q ≡ x ++ n ∷ r → IsAmong (path_names root d) n
      inner x f g =
          let there : zone root d ≡ inside o x = ap (zone root) f ∙ zone_part root closed p o x (n ∷ r) (z ∙ ap (inside o) g) in
          let named : IsAmong (filter_map (next_name x) (paths_of t)) n = among_filter_map (next_name x) (paths_of t) q n path (ap (next_name x) g ∙ next_is x n r) in
          subst (λ y. IsAmong (path_names_in root y) n) (sym there) (subst (λ y. IsAmong (names_of_table y x) n) (sym h) named)

      by : ((x : Place) × ((d ≡ o ++ x) × (q ≡ x ++ n ∷ r))) ⊎ ((s : Place) × (o ≡ d ++ n ∷ s)) → IsAmong (names_below root d) n
      by (inl k) = path_below d n (inner k.0 k.1.0 k.1.1)
      by (inr k) = way_of_seen o dir (head_seen root closed p o q z) d n k.0 k.1

  -- what has lines is seen, or is a path of its object's table
  pub data Reason (p : Place) : Type 0 where
    by_sight : (leaf : Leaf) → seen root p ≡ Some leaf → Reason p
    by_table : (o q : Place) (t : Table) → zone root p ≡ inside o q → table_at root o ≡ Some t → IsAmong (paths_of t) q → Reason p

  within_reason : (p o : Place) (u : Option ℕ) (t : Table) (q : Place) → zone root p ≡ inside o q → table_at root o ≡ Some t → (leaf : Option Leaf)
      → seen root p ≡ leaf → within_notes root p u leaf t q ≢ [] → Reason p
  within_reason p o u t q z h (Some leaf) e some = by_sight leaf e
  within_reason p o u t [] z h None e some = absurd (some refl)
  within_reason p o u t (v ∷ []) z h None e some = absurd (some refl)
  within_reason p o u t (v ∷ c ∷ []) z h None e some = absurd (some refl)
  within_reason p o u t (v ∷ c ∷ m ∷ q) z h None e some = by_table o (v ∷ c ∷ m ∷ q) t z h (path_among t (v ∷ c ∷ m ∷ q) (missing_named _ some))

  object_reason : (p o q : Place) (u : Option ℕ) → zone root p ≡ inside o q → (table : Option Table) → table_at root o ≡ table → object_notes root p u table q ≢ [] → Reason p
  object_reason p o q u z None e some = absurd (some refl)
  object_reason p o q u z (Some t) e some = within_reason p o u t q z e (seen root p) refl some

  zone_reason : (p : Place) (u : Option ℕ) (z : Zone) → zone root p ≡ z → notes_in root p u z ≢ [] → Reason p
  zone_reason p u skipped e some = absurd (some refl)
  zone_reason p u hierarchy e some = by (seen root p) refl some
    where
      by : (leaf : Option Leaf) → seen root p ≡ leaf → hierarchy_notes root p leaf ≢ [] → Reason p
      by None f g = absurd (g refl)
      by (Some leaf) f g = by_sight leaf f
  zone_reason p u (inside o []) e some =
      by_sight dir (ap (seen root) ((zone_is root p o [] e).whole ∙ append_nothing o) ∙ head_seen root closed p o [] e)
  zone_reason p u (inside o (n ∷ q)) e some = object_reason p o (n ∷ q) u e (table_at root o) refl some

  pub common_reason : (u : Option ℕ) (p : Place) → common_notes root u p ≢ [] → Reason p
  common_reason u [] some = by_sight dir refl
  common_reason u (n ∷ p) some = zone_reason (n ∷ p) u (zone root (n ∷ p)) refl some

  -- the names on the way to it are among those that the walk takes
  pub way_of_reason : (p : Place) → Reason p → (d : Place) (n : Text) (r : Place) → p ≡ d ++ n ∷ r → IsAmong (names_below root d) n
  way_of_reason p (by_sight leaf h) d n r e = way_of_seen p leaf h d n r e
  way_of_reason p (by_table o q t z h i) d n r e = way_of_path p o q t z h i d n r e
