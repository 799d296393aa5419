-- The test of a walk's order says what the order is.
use Rattle.std.proofs.Common.{◌≡◌, ℕ, ◌≤◌, ◌^◌, List, [], ◌∷◌, ◌++◌, refl, sym, ap, true, map, Option, Some, None, length}
use Rattle.std.proofs.lemmas.Bool.{leb-true, le-leb, ltb-true, lt-ltb}
use Rattle.std.specs.{Prelude.{nat_le, nat_lt, is_none}, List.{AllByRecursion, list_all}}
use Rattle.std.specs.{Ordering.{is_lt}, declared.cmp.Ordering.{Ordering}}
use Rattle.ocfl_tree.specs.Place.{Place, text_cmp, place_cmp, begins}
use Rattle.ocfl_tree.specs.{Ascending.{IsAscending, IsBeforeAll}, StorageRoot.{max_entries}}
use Rattle.ocfl_tree.proofs.{Orders.{true_not_false}, Bools.{and_first, and_second, and_both}}
use Rattle.ocfl_inventory.specs.{Table.{paths_of, triple_cmp}, ListedPath.{max_elements}}
use Rattle.ocfl_rules.specs.{Lines.{is_empty}, Stack.{Frame}, Zone.{max_listed_depth}}
use Rattle.ocfl_rules.proofs.BelowLaws.{less_from}
use Rattle.ocfl_walk.specs.Orderly.{is_around, is_ascending, is_before_all, is_chain, is_orderly, is_orderly_if}
use Rattle.ocfl_walk.specs.Standing.{Pile, frames_of, piles_in, levels}
use Rattle.ocfl_walk.specs.Internal.Standing.{IsAroundIf, IsChain, IsOrderlyIf, IsOrderlyStand}
use Rattle.ocfl_walk.specs.declared.stand.Stand.{Stand}
use Rattle.ocfl_item.specs.declared.meeting.Around.{Around}

module _ {A : Type 0} (cmp : A → A → Ordering) where
  before_from : (x : A) (ys : List A) → is_before_all cmp x ys ≡ true → IsBeforeAll cmp x ys
  before_from x [] h = tt
  before_from x (y ∷ ys) h = (less_from (cmp x y) (and_first (is_lt (cmp x y)) (is_before_all cmp x ys) h), before_from x ys (and_second (is_lt (cmp x y)) (is_before_all cmp x ys) h))

  before_to : (x : A) (ys : List A) → IsBeforeAll cmp x ys → is_before_all cmp x ys ≡ true
  before_to x [] h = refl
  before_to x (y ∷ ys) h = and_both (is_lt (cmp x y)) (is_before_all cmp x ys) (ap is_lt h.0) (before_to x ys h.1)

  ascending_from : (xs : List A) → is_ascending cmp xs ≡ true → IsAscending cmp xs
  ascending_from [] h = tt
  ascending_from (x ∷ xs) h = (before_from x xs (and_first (is_before_all cmp x xs) (is_ascending cmp xs) h), ascending_from xs (and_second (is_before_all cmp x xs) (is_ascending cmp xs) h))

  ascending_to : (xs : List A) → IsAscending cmp xs → is_ascending cmp xs ≡ true
  ascending_to [] h = refl
  ascending_to (x ∷ xs) h = and_both (is_before_all cmp x xs) (is_ascending cmp xs) (before_to x xs h.0) (ascending_to xs h.1)

module _ {A : Type 0} (measure : A → ℕ) (n : ℕ) where
  all_from : (xs : List A) → list_all (λ x. nat_le (measure x) n) xs ≡ true → AllByRecursion (λ x. measure x ≤ n) xs
  all_from [] h = tt
  all_from (x ∷ xs) h = (
    leb-true (measure x) n (and_first (nat_le (measure x) n) (list_all (λ x. nat_le (measure x) n) xs) h),
    all_from xs
        (and_second (nat_le (measure x) n) (list_all (λ x. nat_le (measure x) n) xs) h),
  )

  all_to : (xs : List A) → AllByRecursion (λ x. measure x ≤ n) xs → list_all (λ x. nat_le (measure x) n) xs ≡ true
  all_to [] h = refl
  all_to (x ∷ xs) h = and_both (nat_le (measure x) n) (list_all (λ x. nat_le (measure x) n) xs) (le-leb (measure x) n h.0) (all_to xs h.1)

chain_from : (p : Place) (k : ℕ) (fs : List Frame) → is_chain p k fs ≡ true → IsChain p k fs
chain_from p k [] h = tt
chain_from p k (f ∷ fs) h =
    let below = map (λ n. f.0 ++ n ∷ []) f.1 in
    let r1 = and_second (begins f.0 p) _ h in
    let r2 = and_second (nat_lt (length f.0) k) _ r1 in
    let r3 = and_second (is_before_all place_cmp p below) _ r2 in (
      and_first (begins f.0 p) _ h,
      ltb-true (length f.0) k (and_first (nat_lt (length f.0) k) _ r1),
      before_from place_cmp p below (and_first (is_before_all place_cmp p below) _ r2),
      ascending_from text_cmp f.1 (and_first (is_ascending text_cmp f.1) _ r3),
      chain_from f.0 (length f.0) fs (and_second (is_ascending text_cmp f.1) _ r3),
    )

chain_to : (p : Place) (k : ℕ) (fs : List Frame) → IsChain p k fs → is_chain p k fs ≡ true
chain_to p k [] h = refl
chain_to p k (f ∷ fs) h =
    and_both _ _ h.0 (and_both _ _ (lt-ltb (length f.0) k h.1)
    (and_both _ _ (before_to place_cmp p (map (λ n. f.0 ++ n ∷ []) f.1) h.2) (and_both _ _ (ascending_to text_cmp f.1 h.3) (chain_to f.0 (length f.0) fs h.4))))

around_from : (last : Place) (a : Option Around) → is_around last a ≡ true → IsAroundIf last a
around_from last None h = tt
around_from last (Some a) h =
    let r1 = and_second (begins a.place last) _ h in
    let r2 = and_second (nat_le (length a.place) max_listed_depth) _ r1 in
    let r3 = and_second (list_all (λ q. nat_le (length q) max_elements) (paths_of a.table)) _ r2 in
    record {
      holds = and_first (begins a.place last) _ h;
      depth = leb-true (length a.place) max_listed_depth (and_first (nat_le (length a.place) max_listed_depth) _ r1);
      fit = record {
        short = all_from (λ q. length q) max_elements (paths_of a.table) (and_first (list_all (λ q. nat_le (length q) max_elements) (paths_of a.table)) _ r2);
        ascends = ascending_from triple_cmp a.table.triples (and_first (is_ascending triple_cmp a.table.triples) _ r3);
        few = ltb-true (length a.table.triples) (2 ^ 64) (and_second (is_ascending triple_cmp a.table.triples) _ r3);
      };
    }

around_to : (last : Place) (a : Option Around) → IsAroundIf last a → is_around last a ≡ true
around_to last None h = refl
around_to last (Some a) h =
    and_both _ _ h.holds (and_both _ _ (le-leb (length a.place) max_listed_depth h.depth)
    (and_both _ _ (all_to (λ q. length q) max_elements (paths_of a.table) h.fit.short)
    (and_both _ _ (ascending_to triple_cmp a.table.triples h.fit.ascends) (lt-ltb (length a.table.triples) (2 ^ 64) h.fit.few))))

if_from : (last : Option Place) (ps : List Pile) (a : Option Around) → is_orderly_if last ps a ≡ true → IsOrderlyIf last ps a
if_from None ps a h = (none ps (and_first (is_empty ps) (is_none a) h), free a (and_second (is_empty ps) (is_none a) h))
  where
    none : (ps : List Pile) → is_empty ps ≡ true → ps ≡ []
    none [] k = refl
    none (p ∷ ps) k = absurd (true_not_false (sym k))

    free : (a : Option Around) → is_none a ≡ true → a ≡ None
    free None k = refl
    free (Some a) k = absurd (true_not_false (sym k))
if_from (Some last) ps a h =
    let r1 = and_second (is_chain last levels (frames_of ps)) _ h in
    record {
      chain = chain_from last levels (frames_of ps) (and_first (is_chain last levels (frames_of ps)) _ h);
      few = all_from (λ p. length p.1) max_entries ps (and_first (list_all (λ p. nat_le (length p.1) max_entries) ps) _ r1);
      object = around_from last a (and_second (list_all (λ p. nat_le (length p.1) max_entries) ps) _ r1);
    }

if_to : (last : Option Place) (ps : List Pile) (a : Option Around) → IsOrderlyIf last ps a → is_orderly_if last ps a ≡ true
if_to None ps a h = and_both (is_empty ps) (is_none a) (ap is_empty h.0) (ap is_none h.1)
if_to (Some last) ps a h = and_both _ _ (chain_to last levels (frames_of ps) h.chain) (and_both _ _ (all_to (λ p. length p.1) max_entries ps h.few) (around_to last a h.object))

pub orderly_from : (s : Stand) → is_orderly s ≡ true → IsOrderlyStand s
orderly_from s h = if_from s.last (piles_in s.last s.listings.items) s.around h

pub orderly_to : (s : Stand) → IsOrderlyStand s → is_orderly s ≡ true
orderly_to s h = if_to s.last (piles_in s.last s.listings.items) s.around h
