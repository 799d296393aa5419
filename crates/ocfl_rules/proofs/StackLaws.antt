-- A stack of listings and one table, step by step.
use Rattle.std.proofs.Common.{◌≡◌, ◌↔◌, inl, inr, List, [], ◌∷◌, ◌++◌, refl, sym, ◌∙◌, ap, subst, true, false, Bool, filter, Option, Some, None, map}
use Rattle.std.specs.Prelude.{cond, filter_map, ◌&&◌, nat_le, length}
use Rattle.std.specs.{List.{cons_option, list_all}, Ordering.{is_lt}}
use Rattle.std.specs.declared.cmp.Ordering.{Ordering}
use Rattle.std.specs.declared.cmp.Ordering.TheVariants.{Less, Equal, Greater}
use Rattle.ocfl_tree.specs.Place.{Place, Text, text_cmp, place_cmp, place_eq, child_name}
use Rattle.ocfl_tree.specs.Ascending.{IsAscending, IsAmong}
use Rattle.ocfl_tree.specs.StorageRoot.{StorageRoot, Leaf, lookup, at, is_dir, is_dir_leaf, names_in}
use Rattle.ocfl_inventory.specs.Table.{Table, paths_of}
use Rattle.ocfl_rules.specs.Zone.{hierarchy, inside, zone, table_at, seen, is_entered, is_listed_zone, max_listed_depth, beginnings}
use Rattle.ocfl_rules.specs.Walk.{is_reached, seen_names, IsClosed}
use Rattle.ocfl_rules.specs.Stack.{Frame, seen_places, seen_in, seen_left, listed_at, NoneSeenBetween, NoPathBetween, NoneSeenAbove, NoPathAbove, IsStack, IsNextPath}
use Rattle.ocfl_tree.proofs.Trees.{at-append}
use Rattle.ocfl_tree.proofs.Orders.{ascending_unique, ascends_ascending, place_cmp_total, place_cmp_exact, true_not_false, not_below_itself, not_both_below, below_from_greater, before_each, among_ascending, among_filter, among_from_filter, ascends_filter}
use Rattle.ocfl_tree.proofs.Places.{append-child_name}
use Rattle.ocfl_rules.proofs.AuditExists.{zone_is}
use Rattle.ocfl_rules.proofs.BelowLaws.{text_cmp_total, text_cmp_exact, place_eq-same, above, less_from, cmp_behind}
use Rattle.ocfl_rules.proofs.StepLaws.{seen_step, reached_step}
use Rattle.ocfl_rules.proofs.NextLaws.{seen_ascend, seen_from, seen_to, least_above, same_above, listed_is, listing_step}

-- ---- an entry of a listing is seen

key_from_entry : (d : Place) (n : Text) (root : StorageRoot) → IsAmong (filter_map (λ e. child_name d e.0) root) n → IsAmong (map (λ e. e.0) root) (d ++ n ∷ [])
key_from_entry d n [] i = absurd i
key_from_entry d n (e ∷ root) i = by (child_name d e.0) refl i (key_from_entry d n root)
  where
    by : (o : Option Text) → child_name d e.0 ≡ o → IsAmong (cons_option o (filter_map (λ x. child_name d x.0) root)) n
        → (IsAmong (filter_map (λ x. child_name d x.0) root) n → IsAmong (map (λ x. x.0) root) (d ++ n ∷ [])) → IsAmong (map (λ x. x.0) (e ∷ root)) (d ++ n ∷ [])
    by None f j k = inr (k j)
    by (Some m) f (inl g) k = inl (sym (append-child_name d e.0 n (f ∙ ap (λ x. Some x) (sym g))))
    by (Some m) f (inr j) k = inr (k j)

key_lookup : (root : StorageRoot) (p : Place) → IsAmong (map (λ e. e.0) root) p → (leaf : Leaf) × (lookup root p ≡ Some leaf)
key_lookup [] p i = absurd i
key_lookup (e ∷ root) p i = by (place_eq e.0 p) refl i (key_lookup root p)
  where
    by : (b : Bool) → place_eq e.0 p ≡ b → IsAmong (map (λ x. x.0) (e ∷ root)) p
        → (IsAmong (map (λ x. x.0) root) p → (leaf : Leaf) × (lookup root p ≡ Some leaf)) → (leaf : Leaf) × (cond b (Some e.1) (lookup root p) ≡ Some leaf)
    by true f j k = (e.1, refl)
    by false f (inl g) k = absurd (true_not_false (sym (place_eq-same p) ∙ ap (λ x. place_eq x p) g ∙ f))
    by false f (inr j) k = k j

entered_dir : (root : StorageRoot) (d : Place) → is_reached root d ≡ true → is_dir_leaf (at root d) ≡ true
entered_dir root d h = by (list_all (is_entered root) (beginnings d)) (nat_le (length d) max_listed_depth) (is_dir root d) h
  where
    by : (a b c : Bool) → a && (b && (c && is_listed_zone root (zone root d))) ≡ true → c ≡ true
    by true true true k = refl
    by true true false k = k
    by true false c k = absurd (true_not_false (sym k))
    by false b c k = absurd (true_not_false (sym k))

pub entry_seen : (root : StorageRoot) (d : Place) (n : Text) → IsAmong (seen_names root d) n → (leaf : Leaf) × (seen root (d ++ n ∷ []) ≡ Some leaf)
entry_seen root d n i = by (is_reached root d) refl i
  where
    there : (leaf : Leaf) × (lookup root (d ++ n ∷ []) ≡ Some leaf) → is_reached root d ≡ true → (leaf : Leaf) × (seen root (d ++ n ∷ []) ≡ Some leaf)
    there k e = (k.0, seen_step root d n ∙ ap (λ b. cond b (at root (d ++ n ∷ [])) None) e ∙ at-append root d n ∙ ap (λ b. cond b (lookup root (d ++ n ∷ [])) None) (entered_dir root d e) ∙ k.1)

    by : (b : Bool) → is_reached root d ≡ b → IsAmong (cond b (names_in root d) []) n → (leaf : Leaf) × (seen root (d ++ n ∷ []) ≡ Some leaf)
    by true e j = there (key_lookup root (d ++ n ∷ []) (key_from_entry d n root ((among_ascending text_cmp_exact _ n).1 j))) e
    by false e j = absurd j

-- ---- the stack

-- what comes first in an ascending list is its least
first_least : (ps : List Place) → IsAscending place_cmp ps → (last x : Place) (rest : List Place) → x ∷ rest ≡ filter (above last) ps
    → (place_cmp last x ≡ Less) × (((p : Place) → IsAmong ps p → place_cmp last p ≡ Less → place_cmp p x ≡ Less → ⊥) × (rest ≡ filter (above x) ps))
first_least ps ascends last x rest h =
    let here = among_from_filter (above last) ps x (subst (λ l. IsAmong l x) h (inl refl)) in
    let l = less_from _ here.1 in
    (l, (least, tail (sym h ∙ refl) l here.0))
  where
    order : IsAscending place_cmp (x ∷ rest)
    order = subst (IsAscending place_cmp) (sym h) (ascends_filter place_cmp (above last) ps ascends)

    least : (p : Place) → IsAmong ps p → place_cmp last p ≡ Less → place_cmp p x ≡ Less → ⊥
    least p i k m = by (subst (λ l. IsAmong l p) (sym h) (among_filter (above last) ps p i (ap is_lt k)))
      where
        by : IsAmong (x ∷ rest) p → ⊥
        by (inl e) = not_below_itself place_cmp_total p (ap (place_cmp p) e ∙ m)
        by (inr j) = not_both_below place_cmp_total p x m (before_each place_cmp x rest order.0 p j)

    tail : filter (above last) ps ≡ x ∷ rest → place_cmp last x ≡ Less → IsAmong ps x → rest ≡ filter (above x) ps
    tail g l i = let both : x ∷ rest ≡ x ∷ filter (above x) ps = h ∙ least_above ps ascends last x i l least in cc

module _ (root : StorageRoot) (closed : IsClosed root) where
  pub stack_starts : (q : Place) → IsStack root q (listed_at root [] q [])
  stack_starts q = listed_is root closed q

  -- the next entry is the least that is seen above last, and its listing goes on top
  pub stack_pops : (last d : Place) (n : Text) (ns : List Text) (fs : List Frame) (leaf : Leaf) → IsStack root last ((d, n ∷ ns) ∷ fs) → seen root (d ++ n ∷ []) ≡ Some leaf
      → (place_cmp last (d ++ n ∷ []) ≡ Less) × (NoneSeenBetween root last (d ++ n ∷ []) × IsStack root (d ++ n ∷ []) ((d ++ n ∷ [], seen_names root (d ++ n ∷ [])) ∷ (d, ns) ∷ fs))
  stack_pops last d n ns fs leaf h s =
      let k = first_least (seen_places root) (seen_ascend root) last (d ++ n ∷ [])
      (seen_left (seen_places root) ((d ++ n ∷ [], seen_names root (d ++ n ∷ [])) ∷ (d, ns) ∷ fs)) (sym (listing_step root closed d n ns fs leaf s) ∙ h) in
      (k.0, ((λ p l g. k.1.0 p (seen_to root p l g)), k.1.1))

  -- a place that is not seen leaves the stack as it is
  pub stack_stays : (last x : Place) (fs : List Frame) → IsStack root last fs → place_cmp last x ≡ Less → seen root x ≡ None → NoneSeenBetween root last x → IsStack root x fs
  stack_stays last x fs h l s none = h ∙ same_above (seen_places root) (seen_ascend root) last x to (λ y i k. place_cmp_total.trans last x y l k)
    where
      to : (y : Place) → IsAmong (seen_places root) y → place_cmp last y ≡ Less → place_cmp x y ≡ Less
      to y i k = go (seen_from root y i) (place_cmp x y) refl
        where
          go : (w : Leaf) × (seen root y ≡ Some w) → (r : Ordering) → place_cmp x y ≡ r → place_cmp x y ≡ Less
          go v Less f = f
          go v Equal f = let same : seen root x ≡ seen root y = ap (seen root) (place_cmp_exact x y f) in let two = v.1 in cc
          go v Greater f = absurd (none y v.0 v.1 k (below_from x y f))
            where
              below_from : (x y : Place) → place_cmp x y ≡ Greater → place_cmp y x ≡ Less
              below_from x y e = below_from_greater place_cmp_total x y e

  pub stack_ends : (last : Place) → IsStack root last [] → NoneSeenAbove root last
  stack_ends last h p leaf s l = subst (λ xs. IsAmong xs p) (sym h) (among_filter (above last) (seen_places root) p (seen_to root p leaf s) (ap is_lt l))

-- ---- the table

module _ (root : StorageRoot) (last o s : Place) (t : Table) (z : zone root last ≡ inside o s) (h : table_at root o ≡ Some t) where
  whole : last ≡ o ++ s
  whole = (zone_is root last o s z).whole

  same_table : (o' s' : Place) (t' : Table) → zone root last ≡ inside o' s' → table_at root o' ≡ Some t' → (o' ≡ o) × (t' ≡ t)
  same_table o' s' t' y g = let e : o' ≡ o = cc in let f : table_at root o' ≡ table_at root o = ap (table_at root) e in (e, cc)

  pub path_least : (b x : Place) → IsNextPath t s b → (place_cmp (o ++ b) x ≡ Less → ⊥) → NoPathBetween root last x
  path_least b x next over o' s' q t' y g i l m =
      let e = same_table o' s' t' y g in
      let among : IsAmong (paths_of t) q = subst (λ v. IsAmong (paths_of v) q) e.1 i in
      let after_s : place_cmp s q ≡ Less = sym (cmp_behind o s q) ∙ (λ k. place_cmp (sym whole k) (sym e.0 k ++ q)) ∙ l in
      let before_x : place_cmp (o ++ q) x ≡ Less = ap (λ y. place_cmp (y ++ q) x) (sym e.0) ∙ m in
      by among after_s before_x (place_cmp q b) refl
    where
      by : IsAmong (paths_of t) q → place_cmp s q ≡ Less → place_cmp (o ++ q) x ≡ Less → (r : Ordering) → place_cmp q b ≡ r → ⊥
      by j k v Less f = next.least q j k f
      by j k v Equal f = over (ap (λ y. place_cmp (o ++ y) x) (sym (place_cmp_exact q b f)) ∙ v)
      by j k v Greater f = over (place_cmp_total.trans (o ++ b) (o ++ q) x (cmp_behind o b q ∙ below_from_greater place_cmp_total q b f) v)

  pub path_none : ((q : Place) → IsAmong (paths_of t) q → place_cmp s q ≡ Less → ⊥) → NoPathAbove root last
  path_none none o' s' q t' y g i l =
      let e = same_table o' s' t' y g in
      none q (subst (λ v. IsAmong (paths_of v) q) e.1 i) (sym (cmp_behind o s q) ∙ (λ k. place_cmp (sym whole k) (sym e.0 k ++ q)) ∙ l)

pub path_off : (root : StorageRoot) (last x : Place) → NoPathAbove root last → NoPathBetween root last x
path_off root last x h o s q t y g i l m = h o s q t y g i l

pub path_hierarchy : (root : StorageRoot) (last : Place) → zone root last ≡ hierarchy → NoPathAbove root last
path_hierarchy root last z o s q t y g i l = cc

-- ---- what the program holds

-- a listing, sorted, is what the definition names
pub names_sorted : (root : StorageRoot) (d : Place) (ns : List Text) → IsAscending text_cmp ns → ((n : Text) → IsAmong ns n ↔ IsAmong (names_in root d) n) → ns ≡ names_in root d
names_sorted root d ns h same = ascending_unique text_cmp_total text_cmp_exact ns (names_in root d) h (ascends_ascending text_cmp_total (filter_map (λ e. child_name d e.0) root)) same

-- below a directory that is not reached no listing leads to anything, so the entry at a place may
-- end there
pub start_stops : (root : StorageRoot) (ps : List Place) (d q : Place) (fs : List Frame) → is_reached root d ≡ false → seen_left ps (listed_at root d q fs) ≡ seen_left ps fs
start_stops root ps d [] fs h = ap (λ b. seen_in ps (d, cond b (names_in root d) []) ++ seen_left ps fs) h
start_stops root ps d (n ∷ q) fs h =
    start_stops root ps (d ++ n ∷ []) q ((d, filter (λ m. is_lt (text_cmp n m)) (seen_names root d)) ∷ fs) (reached_step root d n ∙ ap (λ b. b && is_entered root (d ++ n ∷ [])) h)
    ∙ ap (λ b. seen_in ps (d, filter (λ m. is_lt (text_cmp n m)) (cond b (names_in root d) [])) ++ seen_left ps fs) h
