-- A sorted list with each element once, and what the sorts and dedups of code leave.
use Rattle.std.proofs.Common.{◌≡◌, ◌↔◌, inl, inr, List, [], ◌∷◌, refl, sym, ◌∙◌, ap, subst, true, false, Bool, cond, ℕ, ◌+◌, ◌≤◌, ◌<◌, arith, filter, nat_le, leb-true, le-leb, map, length, get_or, add-one}
use Rattle.std.proofs.lemmas.List.Sorted.{list_any-IsPermutation, sum_by-IsPermutation, IsPermutation-sym}
use Rattle.std.specs.{Prelude.{◌||◌, count_by}, List.{AllByRecursion, IsDistinct, list_any, dedup, dedup_from}}
use Rattle.std.specs.{List.Sorted.{IsPermutation}, Ordering.{is_eq, is_lt}, Cmp.{IsTotalOrder}}
use Rattle.std.specs.{FinMap.{IsAntisymmetric}, declared.cmp.Ordering.{Ordering}}
use Rattle.std.specs.declared.cmp.Ordering.TheVariants.{Less, Equal, Greater}
use Rattle.ocfl_tree.specs.Ascending.{IsBeforeAll, IsAscending, IsAmong, ascending}
use Rattle.ocfl_tree.proofs.Orders.{true_not_false, below_from_greater, not_below_itself, not_less_itself, ascending_unique, ascends_ascending, among_ascending, ascends_filter, among_filter, among_from_filter}
use Rattle.ocfl_inventory.specs.Internal.Beside.{hits}
use Rattle.ocfl_inventory.proofs.Runs.{tally, tally_is, IsUnder, IsUp, IsFront, under_each, both_ways, hit_sound, hit_complete}

module _ {A : Type 0} {cmp : A → A → Ordering} (o : IsTotalOrder cmp) (exact : IsAntisymmetric cmp) where
  abbrev pub alike : A → A → Bool
  alike a b = is_eq (cmp a b)

  pub alike_itself : (x : A) → alike x x ≡ true
  alike_itself x = by (cmp x x) refl
    where
      by : (r : Ordering) → cmp x x ≡ r → is_eq r ≡ true
      by Less e = absurd (not_below_itself o x e)
      by Equal e = refl
      by Greater e = absurd (not_below_itself o x (below_from_greater o x x e))

  pub alike_is : (x y : A) → alike x y ≡ true → x ≡ y
  alike_is x y h = by (cmp x y) refl h
    where
      by : (r : Ordering) → cmp x y ≡ r → is_eq r ≡ true → x ≡ y
      by Less e k = absurd (true_not_false (sym k))
      by Equal e k = exact x y e
      by Greater e k = absurd (true_not_false (sym k))

  pub no_fall : (x y z : A) → is_lt (cmp y x) ≡ false → is_lt (cmp z y) ≡ false → is_lt (cmp z x) ≡ false
  no_fall x y z h k = by (cmp y x) refl h (cmp z x) refl
    where
      by : (r : Ordering) → cmp y x ≡ r → is_lt r ≡ false → (s : Ordering) → cmp z x ≡ s → is_lt s ≡ false
      by Less e f s g = absurd (true_not_false f)
      by Equal e f Less g = absurd (true_not_false (sym (ap is_lt (ap (cmp z) (exact y x e) ∙ g)) ∙ k))
      by Greater e f Less g = absurd (true_not_false (sym (ap is_lt (o.trans z x y g (below_from_greater o y x e))) ∙ k))
      by r e f Equal g = refl
      by r e f Greater g = refl

  chain : (x y : A) (ys : List A) → is_lt (cmp y x) ≡ false → IsUnder cmp y ys → IsUnder cmp x ys
  chain x y [] h k = tt
  chain x y (z ∷ ys) h k = (no_fall x y z h k.0, chain x y ys h k.1)

  -- what a sort leaves, seen by f
  pub up_from_sorted : {P : Type 0} (f : P → A) (xs : List P) → ((k : ℕ) (d : P) → k + 1 < length xs → is_lt (cmp (f (get_or xs (k + 1) d)) (f (get_or xs k d))) ≡ false) → IsUp cmp (map f xs)
  up_from_sorted f [] s = tt
  up_from_sorted f (x ∷ []) s = (tt, tt)
  up_from_sorted f (x ∷ y ∷ ys) s =
      let head : is_lt (cmp (f y) (f x)) ≡ false = s 0 x (omega arith) in
      let rest : IsUp cmp (map f (y ∷ ys)) = up_from_sorted f (y ∷ ys) (λ k d h. simp add-one (simp add-one at (s (k + 1) d (omega arith)))) in
      ((head, chain (f x) (f y) (map f ys) head rest.0), rest)

  -- if no two are alike, each is above the one before it
  pub apart_up : (xs : List A) → IsUp cmp xs → IsDistinct alike xs → IsAscending cmp xs
  unfolding IsDistinct
  apart_up [] up d = tt
  apart_up (x ∷ xs) up d = (over xs up.0 d.0, apart_up xs up.1 d.1)
    where
      over : (ys : List A) → IsUnder cmp x ys → AllByRecursion (λ y. alike x y ≡ false) ys → IsBeforeAll cmp x ys
      over [] u a = tt
      over (y ∷ ys) u a = (by (cmp x y) refl a.0, over ys u.1 a.1)
        where
          by : (r : Ordering) → cmp x y ≡ r → is_eq r ≡ false → cmp x y ≡ Less
          by Less e f = e
          by Equal e f = absurd (true_not_false f)
          by Greater e f = absurd (true_not_false (sym (ap is_lt (below_from_greater o x y e)) ∙ u.0))

  -- ---- each once

  before_from : (x : A) (zs : List A) → ((z : A) → IsAmong zs z → cmp x z ≡ Less) → IsBeforeAll cmp x zs
  before_from x [] h = tt
  before_from x (z ∷ zs) h = (h z (inl refl), before_from x zs (λ w i. h w (inr i)))

  pub among_dedup_from : (k : A) (xs : List A) (z : A) → IsAmong (dedup_from alike k xs) z ↔ IsAmong (k ∷ xs) z
  among_dedup_from k [] z = (λ i. i, λ i. i)
  among_dedup_from k (x ∷ xs) z = by (alike x k) refl (among_dedup_from k xs z) (among_dedup_from x xs z)
    where
      widen : IsAmong (k ∷ xs) z → IsAmong (k ∷ x ∷ xs) z
      widen (inl e) = inl e
      widen (inr i) = inr (inr i)

      narrow : x ≡ k → IsAmong (k ∷ x ∷ xs) z → IsAmong (k ∷ xs) z
      narrow e (inl f) = inl f
      narrow e (inr (inl f)) = inl (f ∙ e)
      narrow e (inr (inr i)) = inr i

      off : (IsAmong (dedup_from alike x xs) z → IsAmong (x ∷ xs) z) → IsAmong (k ∷ dedup_from alike x xs) z → IsAmong (k ∷ x ∷ xs) z
      off t (inl e) = inl e
      off t (inr i) = inr (t i)

      on : (IsAmong (x ∷ xs) z → IsAmong (dedup_from alike x xs) z) → IsAmong (k ∷ x ∷ xs) z → IsAmong (k ∷ dedup_from alike x xs) z
      on t (inl e) = inl e
      on t (inr i) = inr (t i)

      by : (b : Bool) → alike x k ≡ b → (IsAmong (dedup_from alike k xs) z ↔ IsAmong (k ∷ xs) z) → (IsAmong (dedup_from alike x xs) z ↔ IsAmong (x ∷ xs) z)
          → IsAmong (cond b (dedup_from alike k xs) (k ∷ dedup_from alike x xs)) z ↔ IsAmong (k ∷ x ∷ xs) z
      by true e s t = (λ i. widen (s.0 i), λ i. s.1 (narrow (alike_is x k e) i))
      by false e s t = (off t.0, on t.1)

  above : (x y : A) → is_lt (cmp y x) ≡ false → alike y x ≡ false → cmp x y ≡ Less
  above x y h k = by (cmp y x) refl h k
    where
      by : (r : Ordering) → cmp y x ≡ r → is_lt r ≡ false → is_eq r ≡ false → cmp x y ≡ Less
      by Less e f g = absurd (true_not_false f)
      by Equal e f g = absurd (true_not_false g)
      by Greater e f g = below_from_greater o y x e

  -- what is below the least is below all
  below_far : (k x : A) (xs : List A) → cmp k x ≡ Less → IsUnder cmp x xs → (z : A) → IsAmong (x ∷ xs) z → cmp k z ≡ Less
  below_far k x xs h up z (inl e) = ap (cmp k) e ∙ h
  below_far k x xs h up z (inr i) = by (cmp z x) refl (under_each cmp x xs up z i)
    where
      by : (r : Ordering) → cmp z x ≡ r → is_lt r ≡ false → cmp k z ≡ Less
      by Less e f = absurd (true_not_false f)
      by Equal e f = ap (cmp k) (exact z x e) ∙ h
      by Greater e f = o.trans k x z h (below_from_greater o z x e)

  pub ascends_dedup_from : (k : A) (xs : List A) → IsUp cmp (k ∷ xs) → IsAscending cmp (dedup_from alike k xs)
  ascends_dedup_from k [] up = (tt, tt)
  ascends_dedup_from k (x ∷ xs) up = by (alike x k) refl (ascends_dedup_from k xs (up.0.1, up.1.1)) (ascends_dedup_from x xs up.1)
    where
      by : (b : Bool) → alike x k ≡ b → IsAscending cmp (dedup_from alike k xs) → IsAscending cmp (dedup_from alike x xs) → IsAscending cmp (cond b (dedup_from alike k xs) (k ∷ dedup_from alike x xs))
      by true e s t = s
      by false e s t = (before_from k (dedup_from alike x xs) (λ z i. below_far k x xs (above k x up.0.0 e) up.1.0 z ((among_dedup_from x xs z).0 i)), t)

  pub among_dedup : (xs : List A) (z : A) → IsAmong (dedup alike xs) z ↔ IsAmong xs z
  among_dedup [] z = (λ i. i, λ i. i)
  among_dedup (x ∷ xs) z = among_dedup_from x xs z

  pub ascends_dedup : (xs : List A) → IsUp cmp xs → IsAscending cmp (dedup alike xs)
  ascends_dedup [] up = tt
  ascends_dedup (x ∷ xs) up = ascends_dedup_from x xs up

  -- ---- a permutation has the same elements

  any_among : (xs : List A) (z : A) → list_any (λ y. alike z y) xs ≡ true → IsAmong xs z
  any_among [] z h = absurd (true_not_false (sym h))
  any_among (x ∷ xs) z h = by (alike z x) refl h (any_among xs z)
    where
      by : (b : Bool) → alike z x ≡ b → b || list_any (λ y. alike z y) xs ≡ true → (list_any (λ y. alike z y) xs ≡ true → IsAmong xs z) → IsAmong (x ∷ xs) z
      by true e f k = inl (alike_is z x e)
      by false e f k = inr (k f)

  among_any : (xs : List A) (z : A) → IsAmong xs z → list_any (λ y. alike z y) xs ≡ true
  among_any [] z i = absurd i
  among_any (x ∷ xs) z (inl e) = ap (λ b. b || list_any (λ y. alike z y) xs) (ap (alike z) (sym e) ∙ alike_itself z)
  among_any (x ∷ xs) z (inr i) = by (alike z x) (among_any xs z i)
    where
      by : (b : Bool) → list_any (λ y. alike z y) xs ≡ true → b || list_any (λ y. alike z y) xs ≡ true
      by true h = refl
      by false h = h

  pub among_permuted : (xs ys : List A) → IsPermutation xs ys → (z : A) → IsAmong xs z → IsAmong ys z
  among_permuted xs ys p z i = any_among ys z (sym (list_any-IsPermutation (λ y. alike z y) xs ys p) ∙ among_any xs z i)

  -- ---- the two theorems

  -- sorted, and then each once
  pub sorted_once : (xs ys : List A) → IsPermutation xs ys → IsUp cmp ys → dedup alike ys ≡ ascending cmp xs
  sorted_once xs ys p up = ascending_unique o exact (dedup alike ys) (ascending cmp xs) (ascends_dedup ys up) (ascends_ascending o xs) (λ z. (
    λ i. (among_ascending exact xs z).0 (among_permuted ys xs (IsPermutation-sym xs ys p) z ((among_dedup ys z).0 i)),
    λ i. (among_dedup ys z).1 (among_permuted xs ys p z ((among_ascending exact xs z).1 i)),
  ))

  module _ {test : A → A → Bool} (front : IsFront cmp test) where
    under_hits : (x : A) (ys : List A) → IsUnder cmp x ys → IsUnder cmp x (hits test ys)
    under_hits x [] h = tt
    under_hits x (y ∷ []) h = tt
    under_hits x (y ∷ z ∷ ys) h = by (test y z) (under_hits x (z ∷ ys) h.1)
      where
        by : (b : Bool) → IsUnder cmp x (hits test (z ∷ ys)) → IsUnder cmp x (cond b (y ∷ hits test (z ∷ ys)) (hits test (z ∷ ys)))
        by true k = (h.0, k)
        by false k = k

    up_hits : (xs : List A) → IsUp cmp xs → IsUp cmp (hits test xs)
    up_hits [] up = tt
    up_hits (x ∷ []) up = tt
    up_hits (x ∷ y ∷ ys) up = by (test x y) (up_hits (y ∷ ys) up.1)
      where
        by : (b : Bool) → IsUp cmp (hits test (y ∷ ys)) → IsUp cmp (cond b (x ∷ hits test (y ∷ ys)) (hits test (y ∷ ys)))
        by true k = (under_hits x (y ∷ ys) up.0, k)
        by false k = k

    same_tally : (xs ys : List A) (z : A) → IsPermutation xs ys → tally (test z) ys ≡ tally (test z) xs
    same_tally xs ys z p = tally_is (test z) ys ∙ sum_by-IsPermutation (λ x. cond (test z x) 1 0) xs ys p ∙ sym (tally_is (test z) xs)

    -- those that pass the test with two or more, themselves among them: in a sorted list, with the
    -- next
    pub sorted_hits : (p : A → Bool) (xs ys : List A) → ((z : A) → IsAmong xs z → p z ≡ nat_le 2 (count_by (test z) xs)) → IsPermutation xs ys → IsUp cmp ys
        → dedup alike (hits test ys) ≡ filter p (ascending cmp xs)
    sorted_hits p xs ys is perm up =
        ascending_unique o exact (dedup alike (hits test ys)) (filter p (ascending cmp xs)) (ascends_dedup (hits test ys) (up_hits ys up))
        (ascends_filter cmp p (ascending cmp xs) (ascends_ascending o xs)) (λ z. (there z, back z))
      where
        there : (z : A) → IsAmong (dedup alike (hits test ys)) z → IsAmong (filter p (ascending cmp xs)) z
        there z i =
            let h = hit_sound o exact front ys z ((among_dedup (hits test ys) z).0 i) in
            let j : IsAmong xs z = among_permuted ys xs (IsPermutation-sym xs ys perm) z h.0 in
            let many : 2 ≤ count_by (test z) xs = subst (λ n. 2 ≤ n) (same_tally xs ys z perm ∙ tally_is (test z) xs) h.1 in
            among_filter p (ascending cmp xs) z ((among_ascending exact xs z).0 j) (is z j ∙ le-leb _ _ many)

        back : (z : A) → IsAmong (filter p (ascending cmp xs)) z → IsAmong (dedup alike (hits test ys)) z
        back z i =
            let w = among_from_filter p (ascending cmp xs) z i in
            let j : IsAmong xs z = (among_ascending exact xs z).1 w.0 in
            let many : 2 ≤ count_by (test z) xs = leb-true _ _ (sym (is z j) ∙ w.1) in
            let here : 2 ≤ tally (test z) ys = subst (λ n. 2 ≤ n) (sym (same_tally xs ys z perm ∙ tally_is (test z) xs)) many in
            (among_dedup (hits test ys) z).1 (hit_complete o exact front ys z up (among_permuted xs ys perm z j, here))

  -- likeness itself is such a test
  pub alike_front : IsFront cmp alike
  alike_front = record {
    itself = alike_itself;
    later = λ x y h. let e : x ≡ y = alike_is x y h in subst (λ w. is_lt (cmp w x) ≡ false) e (not_less_itself o x);
    between = λ x y z h k t. let e : x ≡ z = alike_is x z t in let f : x ≡ y = both_ways o exact x y h (subst (λ w. is_lt (cmp w y) ≡ false) (sym e) k) in subst
        (λ w. alike x w ≡ true) f (alike_itself x);
  }
