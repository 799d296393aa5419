-- Searching triples that ascend.
use Rattle.std.proofs.Common.{◌≡◌, ℕ, zero, suc, ◌≤◌, ◌<◌, List, [], ◌∷◌, Bool, true, false, refl, sym, ◌∙◌, ap, cond, map, length, get_or, take, drop, arith, Option, Some, None, option_map, filter_map, leb-true}
use Rattle.std.proofs.{lemmas.Bool.{not-false, not-true, Decides.{nat_tests}}, lemmas.List.{get_or_default}}
use Rattle.std.specs.{Prelude.{not, find, slice_get, nat_le}, List.{AllWithin, cons_option}}
use Rattle.std.specs.List.Sorted.{IsPartitionPoint}
use Rattle.std.specs.Ordering.{is_lt, is_eq, ordering_then, ordering_reverse}
use Rattle.std.specs.declared.cmp.Ordering.{Ordering}
use Rattle.std.specs.declared.cmp.Ordering.TheVariants.{Less, Equal, Greater}
use Rattle.ocfl_tree.specs.Place.{Place, place_cmp, place_eq}
use Rattle.ocfl_tree.specs.Ascending.{IsBeforeAll, IsAscending}
use Rattle.ocfl_tree.proofs.Orders.{true_not_false, place_cmp_total, place_cmp_exact, below_from_greater, less_from, not_less_itself}
use Rattle.ocfl_inventory.specs.Table.{Named, Triple, triple_cmp, named_cmp}
use Rattle.ocfl_inventory.proofs.{Runs.{IsUnder, IsUp}, Once.{no_fall}}

-- ---- the paths do not fall

not_under : (x y : Triple) → triple_cmp x y ≡ Less → is_lt (place_cmp y.path x.path) ≡ false
not_under x y h = by (place_cmp x.path y.path) refl h
  where
    by : (r : Ordering) → place_cmp x.path y.path ≡ r → ordering_then r (named_cmp x.named y.named) ≡ Less → is_lt (place_cmp y.path x.path) ≡ false
    by Less e k = ap is_lt (place_cmp_total.antisymm y.path x.path ∙ ap ordering_reverse e)
    by Equal e k = ap is_lt (place_cmp_total.antisymm y.path x.path ∙ ap ordering_reverse e)
    by Greater e k = cc

under_paths : (x : Triple) (es : List Triple) → IsBeforeAll triple_cmp x es → IsUnder place_cmp x.path (map (λ e. e.path) es)
under_paths x [] h = tt
under_paths x (y ∷ es) h = (not_under x y h.0, under_paths x es h.1)

up_paths : (es : List Triple) → IsAscending triple_cmp es → IsUp place_cmp (map (λ e. e.path) es)
up_paths [] h = tt
up_paths (x ∷ es) h = (under_paths x es h.0, up_paths es h.1)

under_at : (p : Place) (xs : List Triple) (j : ℕ) (d : Triple) → IsUnder place_cmp p (map (λ t. t.path) xs) → j < length xs → is_lt (place_cmp (get_or xs j d).path p) ≡ false
under_at p [] j d h l = absurd (omega (arith, l))
under_at p (x ∷ xs) zero d h l = h.0
under_at p (x ∷ xs) (suc j) d h l = under_at p xs j d h.1 (omega arith)

up_at : (xs : List Triple) (i j : ℕ) (d : Triple) → IsUp place_cmp (map (λ t. t.path) xs) → i ≤ j → j < length xs → is_lt (place_cmp (get_or xs j d).path (get_or xs i d).path) ≡ false
up_at [] i j d h k l = absurd (omega (arith, l))
up_at (x ∷ xs) zero zero d h k l = not_less_itself place_cmp_total x.path
up_at (x ∷ xs) zero (suc j) d h k l = under_at x.path xs j d h.0 (omega arith)
up_at (x ∷ xs) (suc i) zero d h k l = absurd (omega (arith, k))
up_at (x ∷ xs) (suc i) (suc j) d h k l = up_at xs i j d h.1 (omega arith) (omega arith)

paths_at : (xs : List Triple) → IsAscending triple_cmp xs → (i j : ℕ) (d : Triple) → i ≤ j → j < length xs → is_lt (place_cmp (get_or xs j d).path (get_or xs i d).path) ≡ false
paths_at xs up i j d k l = up_at xs i j d (up_paths xs up) k l

below_too : (p q r : Place) → is_lt (place_cmp q p) ≡ false → is_lt (place_cmp q r) ≡ true → is_lt (place_cmp p r) ≡ true
below_too p q r h k = by (place_cmp p q) refl
  where
    by : (o : Ordering) → place_cmp p q ≡ o → is_lt (place_cmp p r) ≡ true
    by Less e = ap is_lt (place_cmp_total.trans p q r e (less_from _ k))
    by Equal e = ap (λ s. is_lt (place_cmp s r)) (place_cmp_exact p q e) ∙ k
    by Greater e = absurd (true_not_false (sym (ap is_lt (below_from_greater place_cmp_total p q e)) ∙ h))

pub parted_from : (xs : List Triple) (q : Place) → IsAscending triple_cmp xs → (i j : ℕ) (d : Triple) → i ≤ j → j < length xs
    → is_lt (place_cmp (get_or xs j d).path q) ≡ true → is_lt (place_cmp (get_or xs i d).path q) ≡ true
parted_from xs q up i j d k l h = below_too (get_or xs i d).path (get_or xs j d).path q (paths_at xs up i j d k l) h

pub parted_above : (xs : List Triple) (q : Place) → IsAscending triple_cmp xs → (i j : ℕ) (d : Triple) → i ≤ j → j < length xs
    → not (is_lt (place_cmp q (get_or xs j d).path)) ≡ true → not (is_lt (place_cmp q (get_or xs i d).path)) ≡ true
parted_above xs q up i j d k l h = ap not (no_fall place_cmp_total place_cmp_exact (get_or xs i d).path (get_or xs j d).path q (paths_at xs up i j d k l) (not-true _ h))

pub above_point : (xs : List Triple) (q : Place) (n : ℕ)
    → IsPartitionPoint (λ t. not (is_lt (place_cmp q t.path)) ≡ true) (λ t. not (is_lt (place_cmp q t.path)) ≡ false) xs n
    → IsPartitionPoint (λ t. is_lt (place_cmp q t.path) ≡ false) (λ t. is_lt (place_cmp q t.path) ≡ true) xs n
above_point xs q n h = (λ k d a b. not-true _ (h.0 k d a b), λ k d a b. not-false _ (h.1 k d a b))

-- ---- the digests of a place

module _ (q : Place) where
  abbrev pick : Triple → Option Named
  pick e = cond (place_eq e.path q) (Some e.named) None

  abbrev IsLow : List Triple → ℕ → Type 0
  IsLow xs i = IsPartitionPoint (λ t. is_lt (place_cmp t.path q) ≡ true) (λ t. is_lt (place_cmp t.path q) ≡ false) xs i

  abbrev IsHigh : List Triple → ℕ → Type 0
  IsHigh xs j = IsPartitionPoint (λ t. is_lt (place_cmp q t.path) ≡ false) (λ t. is_lt (place_cmp q t.path) ≡ true) xs j

  below_apart : (p : Place) → is_lt (place_cmp p q) ≡ true → place_eq p q ≡ false
  below_apart p h = ap is_eq (less_from _ h)

  above_apart : (p : Place) → is_lt (place_cmp q p) ≡ true → place_eq p q ≡ false
  above_apart p h = ap is_eq (place_cmp_total.antisymm p q ∙ ap ordering_reverse (less_from _ h))

  between_same : (p : Place) → is_lt (place_cmp p q) ≡ false → is_lt (place_cmp q p) ≡ false → place_eq p q ≡ true
  between_same p h k = by (place_cmp p q) refl h
    where
      by : (o : Ordering) → place_cmp p q ≡ o → is_lt o ≡ false → is_eq o ≡ true
      by Less e f = absurd (true_not_false f)
      by Equal e f = refl
      by Greater e f = absurd (true_not_false (sym (ap is_lt (below_from_greater place_cmp_total p q e)) ∙ k))

  skip : (x : Triple) (ys : List Named) → place_eq x.path q ≡ false → cons_option (pick x) ys ≡ ys
  skip x ys h = ap (λ b. cons_option (cond b (Some (x.named)) None) ys) h

  keep : (x : Triple) (ys : List Named) → place_eq x.path q ≡ true → cons_option (pick x) ys ≡ x.named ∷ ys
  keep x ys h = ap (λ b. cons_option (cond b (Some (x.named)) None) ys) h

  none_above : (xs : List Triple) → ((k : ℕ) (d : Triple) → 0 ≤ k → k < length xs → is_lt (place_cmp q (get_or xs k d).path) ≡ true) → filter_map pick xs ≡ []
  none_above [] h = refl
  none_above (x ∷ xs) h = skip x _ (above_apart x.path (h 0 x (omega arith) (omega arith))) ∙ none_above xs (λ k d a b. h (suc k) d (omega arith) (omega arith))

  picked_first : (xs : List Triple) (j : ℕ) → ((k : ℕ) (d : Triple) → 0 ≤ k → k < length xs → is_lt (place_cmp (get_or xs k d).path q) ≡ false) → IsHigh xs j
      → filter_map pick xs ≡ map (λ t. t.named) (take j xs)
  picked_first xs zero h w = none_above xs w.1
  picked_first [] (suc j) h w = refl
  picked_first (x ∷ xs) (suc j) h w =
      keep x _ (between_same x.path (h 0 x (omega arith) (omega arith)) (w.0 0 x (omega arith) (omega arith)))
      ∙ ap (λ ys. x.named ∷ ys) (picked_first xs j (λ k d a b. h (suc k) d (omega arith) (omega arith))
      (λ k d a b. w.0 (suc k) d (omega arith) (omega arith), λ k d a b. w.1 (suc k) d (omega arith) (omega arith)))

  not_above : (p : Place) → is_lt (place_cmp p q) ≡ true → is_lt (place_cmp q p) ≡ false
  not_above p h = ap is_lt (place_cmp_total.antisymm q p ∙ ap ordering_reverse (less_from _ h))

  both_below : (p : Place) → is_lt (place_cmp p q) ≡ true → is_lt (place_cmp q p) ≡ true → ⊥
  both_below p h k = true_not_false (sym k ∙ not_above p h)

  not_past : (xs : List Triple) (i j : ℕ) → i ≤ length xs → IsLow xs i → IsHigh xs j → j < i → ⊥
  not_past [] i j a low high l = omega (arith, a, l)
  not_past (x ∷ xs) i j a low high l = both_below (get_or (x ∷ xs) j x).path (low.0 j x (omega arith) l) (high.1 j x (omega arith) (omega (arith, a, l)))

  pub in_order : (xs : List Triple) (i j : ℕ) → i ≤ length xs → IsLow xs i → IsHigh xs j → i ≤ j
  in_order xs i j a low high = by (nat_le i j) refl
    where
      by : (b : Bool) → nat_le i j ≡ b → i ≤ j
      by true e = leb-true _ _ e
      by false e = let l : j < i = grind (arith, nat_tests) in absurd (not_past xs i j a low high l)

  pub picked : (xs : List Triple) (i j : ℕ) → i ≤ length xs → IsLow xs i → IsHigh xs j → filter_map pick xs ≡ map (λ t. t.named) (drop i (take j xs))
  picked xs zero j a low high = picked_first xs j low.1 high
  picked [] (suc i) j a low high = absurd (omega (arith, a))
  picked (x ∷ xs) (suc i) zero a low high = absurd (not_past (x ∷ xs) (suc i) zero a low high (omega arith))
  picked (x ∷ xs) (suc i) (suc j) a low high =
      skip x _ (below_apart x.path (low.0 0 x (omega arith) (omega arith)))
      ∙ picked xs i j (omega (arith, a)) (λ k d b l. low.0 (suc k) d (omega arith) (omega arith), λ k d b l. low.1 (suc k) d (omega arith) (omega arith))
      (λ k d b l. high.0 (suc k) d (omega arith) (omega arith), λ k d b l. high.1 (suc k) d (omega arith) (omega arith))

  -- ---- going up from where the paths of a place begin

  abbrev pub AreNotAbove : List Triple → ℕ → Type 0
  AreNotAbove xs i = AllWithin (λ t. is_lt (place_cmp q t.path) ≡ false) xs 0 i

  pub scan_begins : (xs : List Triple) (i : ℕ) → IsLow xs i → AreNotAbove xs i
  scan_begins xs i low k d a b = not_above (get_or xs k d).path (low.0 k d a b)

  pub scan_stops : (xs : List Triple) (i : ℕ) (d : Triple) → IsAscending triple_cmp xs → i < length xs → AreNotAbove xs i
      → is_lt (place_cmp q (get_or xs i d).path) ≡ true → IsHigh xs i
  scan_stops xs i d up l below above = (below, λ k e a b. by k e a b (is_lt (place_cmp q (get_or xs k e).path)) refl)
    where
      by : (k : ℕ) (e : Triple) → i ≤ k → k < length xs → (r : Bool) → is_lt (place_cmp q (get_or xs k e).path) ≡ r → is_lt (place_cmp q (get_or xs k e).path) ≡ true
      by k e a b true is = is
      by k e a b false is =
          let here : is_lt (place_cmp q (get_or xs i e).path) ≡ false = not-true _ (parted_above xs q up i k e a b (ap not is)) in
          absurd (true_not_false (sym above ∙ ap (λ t. is_lt (place_cmp q t.path)) (get_or_default xs i d e l) ∙ here))

-- ---- the next path

pub found_at : (test : Place → Bool) (xs : List Triple) (n : ℕ) → IsPartitionPoint (λ t. test t.path ≡ false) (λ t. test t.path ≡ true) xs n
    → option_map (λ t. t.path) (slice_get xs n) ≡ find test (map (λ t. t.path) xs)
found_at test [] n w = refl
found_at test (x ∷ xs) zero w = ap (λ b. cond b (Some x.path) (find test (map (λ t. t.path) xs))) (sym (w.1 0 x (omega arith) (omega arith)))
found_at test (x ∷ xs) (suc n) w =
    found_at test xs n (λ k d b l. w.0 (suc k) d (omega arith) (omega arith), λ k d b l. w.1 (suc k) d (omega arith) (omega arith))
    ∙ ap (λ b. cond b (Some x.path) (find test (map (λ t. t.path) xs))) (sym (w.0 0 x (omega arith) (omega arith)))

pub first_of : (xs : List Triple) → option_map (λ t. t.path) (slice_get xs 0) ≡ slice_get (map (λ t. t.path) xs) 0
first_of [] = refl
first_of (x ∷ xs) = refl
