-- Items have at most 255 names, and a stack that is entered at a place lists only the way to it.
use Rattle.std.proofs.Common.{◌≡◌, ◌≢◌, ◌⊎◌, inl, inr, ℕ, ◌+◌, ◌<◌, ◌≤◌, List, [], ◌∷◌, ◌++◌, refl, sym, ◌∙◌, ap, subst, true, false, Bool, map, filter, Option, Some, None, arith, length, Ok, Err, ltb-false}
use Rattle.std.proofs.{lemmas.Bool.{leb-true}, lemmas.List.{length-append}}
use Rattle.std.specs.Prelude.{cond, flat_map, nat_le, nat_lt, not, is_some, ◌&&◌, ◌||◌, nat_eq, codes}
use Rattle.std.specs.{List.{starts_with, ends_with, list_any, list_all}, Ordering.{match_ordering}}
use Rattle.std.specs.declared.cmp.Ordering.{Ordering}
use Rattle.std.specs.declared.cmp.Ordering.TheVariants.{Less, Equal, Greater}
use Rattle.ocfl_tree.specs.Place.{Place, Text, begins}
use Rattle.ocfl_tree.specs.Ascending.{insert_once, ascending, IsAmong}
use Rattle.ocfl_tree.specs.{StorageRoot.{StorageRoot, Leaf, at, is_dir}, Path.{elements}}
use Rattle.ocfl_report.specs.declared.code.Code.TheVariants.{E099, E100, S06}
use Rattle.ocfl_report.specs.declared.further.Further.{Further}
use Rattle.ocfl_digest.specs.declared.algorithm.Algorithm.{Algorithm}
use Rattle.ocfl_inventory.specs.Table.{Table, Triple, triple_cmp, triples_of, table_from, table_of, paths_of}
use Rattle.ocfl_inventory.specs.Reading.{Inventory, Block, Reading, inventory_of}
use Rattle.ocfl_inventory.specs.ListedPath.{is_empty_or_dots, is_too_long_or_nul, is_content_path, is_kept}
use Rattle.ocfl_rules.specs.Inventories.{notes}
use Rattle.ocfl_rules.specs.Zone.{zone, table_at, inventory_at, inventory_limit, seen, is_entered, is_listed_zone, max_listed_depth, beginnings}
use Rattle.ocfl_rules.specs.Walk.{is_reached, IsClosed}
use Rattle.ocfl_rules.specs.Stack.{Frame, listed_at}
use Rattle.ocfl_rules.proofs.AuditExists.{some_not_none, zone_is, append_one}
use Rattle.ocfl_rules.proofs.BelowLaws.{from_append, from_flat_map, begins_front}
use Rattle.ocfl_rules.proofs.WayLaws.{Reason, by_sight, by_table, reached_front, object_short}
use Rattle.ocfl_rules.proofs.FurtherLaws.{reason}
use Rattle.ocfl_tree.proofs.Orders.{true_not_false}

-- ---- paths of tables are kept

pub record IsKeptPath (content : Text) (q : Place) : Type 0 where
  pub text : Text
  pub kept : is_kept content text ≡ true
  pub is : q ≡ elements text

among_map_from : {A B : Type 0} (f : A → B) (xs : List A) (z : B) → IsAmong (map f xs) z → (x : A) × (IsAmong xs x × (z ≡ f x))
among_map_from f [] z i = absurd i
among_map_from f (x ∷ xs) z (inl e) = (x, (inl refl, e))
among_map_from f (x ∷ xs) z (inr i) = let k = among_map_from f xs z i in (k.0, (inr k.1.0, k.1.1))

among_kept : (test : Text → Bool) (xs : List Text) (z : Text) → IsAmong (filter test xs) z → test z ≡ true
among_kept test [] z i = absurd i
among_kept test (x ∷ xs) z i = by (test x) refl i (among_kept test xs z)
  where
    by : (b : Bool) → test x ≡ b → IsAmong (cond b (x ∷ filter test xs) (filter test xs)) z → (IsAmong (filter test xs) z → test z ≡ true) → test z ≡ true
    by true e (inl f) k = ap test f ∙ e
    by true e (inr j) k = k j
    by false e j k = k j

module _ {A : Type 0} (cmp : A → A → Ordering) where
  from_insert : (x z : A) (ys : List A) → IsAmong (insert_once cmp x ys) z → IsAmong (x ∷ ys) z
  from_insert x z [] i = i
  from_insert x z (y ∷ ys) i = by (cmp x y) i (from_insert x z ys)
    where
      later : IsAmong (x ∷ ys) z → IsAmong (x ∷ y ∷ ys) z
      later (inl e) = inl e
      later (inr j) = inr (inr j)

      by : (r : Ordering) → IsAmong (match_ordering r (x ∷ y ∷ ys) (y ∷ ys) (y ∷ insert_once cmp x ys)) z → (IsAmong (insert_once cmp x ys) z → IsAmong (x ∷ ys) z) → IsAmong (x ∷ y ∷ ys) z
      by Less j k = j
      by Equal j k = inr j
      by Greater (inl e) k = inr (inl e)
      by Greater (inr j) k = later (k j)

  -- what is in a list in order was in the list
  among_from_ascending : (xs : List A) (z : A) → IsAmong (ascending cmp xs) z → IsAmong xs z
  among_from_ascending [] z i = i
  among_from_ascending (x ∷ xs) z i = by (from_insert x z (ascending cmp xs) i) (among_from_ascending xs z)
    where
      by : IsAmong (x ∷ ascending cmp xs) z → (IsAmong (ascending cmp xs) z → IsAmong xs z) → IsAmong (x ∷ xs) z
      by (inl e) k = inl e
      by (inr j) k = inr (k j)

kept_triples : (fixity : Bool) (content : Text) (a : Algorithm) (b : Block) (e : Triple) → IsAmong (triples_of fixity content a b) e → IsKeptPath content e.path
kept_triples fixity content a b e i =
    let k = from_flat_map _ b e i in
    let m = among_map_from _ (filter (is_kept content) k.0.1) e k.1.1 in
    record { text = m.0; kept = among_kept (is_kept content) k.0.1 m.0 m.1.0; is = ap (λ x. x.path) m.1.1 }

pub kept_paths : (i : Inventory) (q : Place) → IsAmong (paths_of (table_from i)) q → IsKeptPath i.content q
kept_paths i q j =
    let k = among_map_from (λ e. e.path) (table_from i).triples q j in
    subst (IsKeptPath i.content) (sym k.1.1) (by k.0 (from_append (triples_of false i.content i.algorithm i.manifest) _ k.0 (among_from_ascending triple_cmp _ k.0 k.1.0)))
  where
    by : (e : Triple) → IsAmong (triples_of false i.content i.algorithm i.manifest) e ⊎ IsAmong (flat_map (λ x. triples_of true i.content x.0 x.1) i.fixity) e → IsKeptPath i.content e.path
    by e (inl l) = kept_triples false i.content i.algorithm i.manifest e l
    by e (inr l) = let m = from_flat_map (λ x. triples_of true i.content x.0 x.1) i.fixity e l in kept_triples true i.content m.0.0 m.0.1 e m.1.1

kept_table : (bytes : Text) (t : Table) → table_of bytes ≡ Some t → (i : Inventory) × (t ≡ table_from i)
kept_table bytes t h = by (inventory_of bytes) h
  where
    by : (r : Reading Inventory) → elim r [ Ok i ↦ Some (table_from i) | Err n ↦ None ] ≡ Some t → (i : Inventory) × (t ≡ table_from i)
    by (Ok i) e = let f : t ≡ table_from i = cc in (i, f)
    by (Err n) e = absurd (some_not_none t e)

pub table_from_inventory : (root : StorageRoot) (o : Place) (t : Table) → table_at root o ≡ Some t → (i : Inventory) × (t ≡ table_from i)
table_from_inventory root o t h = by (inventory_at root o) h
  where
    by : (b : Option Text) → elim b [ None ↦ None | Some bytes ↦ cond (nat_le (length bytes) inventory_limit) (table_of bytes) None ] ≡ Some t → (i : Inventory) × (t ≡ table_from i)
    by None e = absurd (some_not_none t e)
    by (Some bytes) e = go (nat_le (length bytes) inventory_limit) e
      where
        go : (b : Bool) → cond b (table_of bytes) None ≡ Some t → (i : Inventory) × (t ≡ table_from i)
        go true f = kept_table bytes t f
        go false f = absurd (some_not_none t f)

pub kept_short : (content x : Text) → is_kept content x ≡ true → (is_content_path content (elements x) ≡ true) × (nat_lt 128 (length (elements x)) ≡ false)
kept_short content x h = by (starts_with nat_eq x (codes "/") || ends_with nat_eq x (codes "/")) (list_any is_empty_or_dots (elements x))
    (is_content_path content (elements x)) (nat_lt 128 (length (elements x))) (list_any is_too_long_or_nul (elements x)) refl refl h
  where
    by : (a b c d e : Bool) → is_content_path content (elements x) ≡ c → nat_lt 128 (length (elements x)) ≡ d
        → not (is_some (cond a (Some E100) (cond b (Some E099) (cond (not c || d || e) (Some S06) None)))) ≡ true
        → (is_content_path content (elements x) ≡ true) × (nat_lt 128 (length (elements x)) ≡ false)
    by true b c d e f g k = absurd (true_not_false (sym k))
    by false true c d e f g k = absurd (true_not_false (sym k))
    by false false true false e f g k = (f, g)
    by false false true true e f g k = absurd (true_not_false (sym k))
    by false false false d e f g k = absurd (true_not_false (sym k))

path_short : (root : StorageRoot) (o q : Place) (t : Table) → table_at root o ≡ Some t → IsAmong (paths_of t) q → length q ≤ 128
path_short root o q t h i =
    let k = table_from_inventory root o t h in
    let m = kept_paths k.0 q (subst (λ x. IsAmong (paths_of x) q) k.1 i) in
    let n : length (elements m.text) ≤ 128 = ltb-false 128 (length (elements m.text)) (kept_short k.0.content m.text m.kept).1 in
    subst (λ x. length x ≤ 128) (sym m.is) n

-- ---- places of items

last_name : (n : Text) (p : Place) → (d : Place) × ((m : Text) × (n ∷ p ≡ d ++ m ∷ []))
last_name n [] = ([], (n, refl))
last_name n (m ∷ p) = let k = last_name m p in (n ∷ k.0, (k.1.0, ap (λ x. n ∷ x) k.1.1))

reached_short : (root : StorageRoot) (d : Place) → is_reached root d ≡ true → length d ≤ 127
reached_short root d h = leb-true (length d) 127 (by (list_all (is_entered root) (beginnings d)) (nat_le (length d) max_listed_depth) h)
  where
    by : (a b : Bool) → a && (b && (is_dir root d && is_listed_zone root (zone root d))) ≡ true → b ≡ true
    by true true k = refl
    by true false k = k
    by false b k = absurd (true_not_false (sym k))

seen_short : (root : StorageRoot) (p : Place) (leaf : Leaf) → seen root p ≡ Some leaf → length p ≤ 128
seen_short root [] leaf h = omega arith
seen_short root (n ∷ p) leaf h = by (list_all (is_entered root) (beginnings (n ∷ p))) refl h
  where
    by : (b : Bool) → list_all (is_entered root) (beginnings (n ∷ p)) ≡ b → cond b (at root (n ∷ p)) None ≡ Some leaf → length (n ∷ p) ≤ 128
    by false e f = absurd (some_not_none leaf f)
    by true e f =
        let k = last_name n p in
        let way : list_all (is_entered root) (beginnings (k.0 ++ k.1.0 ∷ [])) ≡ true = ap (λ x. list_all (is_entered root) (beginnings x)) (sym k.1.1) ∙ e in
        let short : length k.0 ≤ 127 = reached_short root k.0 (reached_front root k.0 k.1.0 [] way) in
        let whole : length (n ∷ p) ≡ length k.0 + length (k.1.0 ∷ []) = ap length k.1.1 ∙ length-append k.0 (k.1.0 ∷ []) in
        omega (arith, short, whole)

pub item_short : (further : Further) (root : StorageRoot) (closed : IsClosed root) (u : Option ℕ) (p : Place) → notes further root u p ≢ [] → length p < 256
item_short further root closed u p some = by (reason further root closed u p some)
  where
    by : Reason root closed p → length p < 256
    by (by_sight leaf h) = let m = seen_short root p leaf h in omega (arith, m)
    by (by_table o q t z h i) =
        let is = zone_is root p o q z in
        let one : length o ≤ 127 = leb-true (length o) 127 (object_short root closed o is.declares) in
        let two : length q ≤ 128 = path_short root o q t h i in
        let whole : length p ≡ length o + length q = ap length is.whole ∙ length-append o q in
        omega (arith, one, two, whole)

-- ---- the way to a cursor's place

on_way : (root : StorageRoot) (d q : Place) (fs : List Frame) (e : Place) → IsAmong (map (λ f. f.0) (listed_at root d q fs)) e → (begins e (d ++ q) ≡ true) ⊎ IsAmong (map (λ f. f.0) fs) e
on_way root d [] fs e (inl h) = inl (ap (λ x. begins x (d ++ [])) h ∙ begins_front d [])
on_way root d [] fs e (inr i) = inr i
on_way root d (n ∷ q) fs e i = by (on_way root (d ++ n ∷ []) q _ e i)
  where
    by : (begins e ((d ++ n ∷ []) ++ q) ≡ true) ⊎ ((e ≡ d) ⊎ IsAmong (map (λ f. f.0) fs) e) → (begins e (d ++ n ∷ q) ≡ true) ⊎ IsAmong (map (λ f. f.0) fs) e
    by (inl h) = inl (ap (begins e) (sym (append_one d q n)) ∙ h)
    by (inr (inl h)) = inl (ap (λ x. begins x (d ++ n ∷ q)) h ∙ begins_front d (n ∷ q))
    by (inr (inr j)) = inr j

pub lists_the_way : (root : StorageRoot) (q e : Place) → IsAmong (map (λ f. f.0) (listed_at root [] q [])) e → begins e q ≡ true
lists_the_way root q e i = by (on_way root [] q [] e i)
  where
    by : (begins e q ≡ true) ⊎ ⊥ → begins e q ≡ true
    by (inl h) = h
    by (inr h) = absurd h
