-- Laws of lists, and of lists in order.
use Rattle.std.proofs.Common.{◌≡◌, inl, inr, subst, List, [], ◌∷◌, ◌++◌, refl, sym, ◌∙◌, ap, true, false, Bool, filter, append_assoc}
use Rattle.std.specs.{Prelude.{cond, flat_map, not}, List.{AllByRecursion}}
use Rattle.std.specs.declared.cmp.Ordering.{Ordering}
use Rattle.ocfl_tree.specs.Ascending.{IsBeforeAll, IsAscending, IsAmong}
use Rattle.ocfl_item.specs.Looking.{IsFront}

module _ {A B : Type 0} where
  pub flat_append : (f : A → List B) (xs ys : List A) → flat_map f (xs ++ ys) ≡ flat_map f xs ++ flat_map f ys
  flat_append f [] ys = refl
  flat_append f (x ∷ xs) ys = ap (λ zs. f x ++ zs) (flat_append f xs ys) ∙ sym (append_assoc (f x) (flat_map f xs) (flat_map f ys))

module _ {A : Type 0} where
  pub nothing_front : (xs : List A) → IsFront xs [] → xs ≡ []
  nothing_front [] f = refl
  nothing_front (x ∷ xs) f = absurd (let e = f.1 in cc)

  pub ascends_left : (cmp : A → A → Ordering) (xs ys : List A) → IsAscending cmp (xs ++ ys) → IsAscending cmp xs
  ascends_left cmp [] ys h = tt
  ascends_left cmp (x ∷ xs) ys h = (before_left xs h.0, ascends_left cmp xs ys h.1)
    where
      before_left : (zs : List A) → IsBeforeAll cmp x (zs ++ ys) → IsBeforeAll cmp x zs
      before_left [] k = tt
      before_left (z ∷ zs) k = (k.0, before_left zs k.1)

  before_right : (cmp : A → A → Ordering) (x : A) (zs ys : List A) → IsBeforeAll cmp x (zs ++ ys) → IsBeforeAll cmp x ys
  before_right cmp x [] ys k = k
  before_right cmp x (z ∷ zs) ys k = before_right cmp x zs ys k.1

  -- an element of the front comes before each of the end
  pub ascends_across : (cmp : A → A → Ordering) (xs ys : List A) (x : A) → IsAscending cmp (xs ++ ys) → IsAmong xs x → IsBeforeAll cmp x ys
  ascends_across cmp [] ys x h i = absurd i
  ascends_across cmp (z ∷ xs) ys x h (inl e) = by e (before_right cmp z xs ys h.0)
    where
      by : x ≡ z → IsBeforeAll cmp z ys → IsBeforeAll cmp x ys
      by f k = subst (λ w. IsBeforeAll cmp w ys) (sym f) k
  ascends_across cmp (z ∷ xs) ys x h (inr i) = ascends_across cmp xs ys x h.1 i

-- ---- one list cut in two by a test that holds from some element on

module _ {A : Type 0} where
  none_left : (test : A → Bool) (xs : List A) → AllByRecursion (λ y. test y ≡ true) xs → filter (λ y. not (test y)) xs ≡ []
  none_left test [] h = refl
  none_left test (x ∷ xs) h = ap (λ b. cond (not b) (x ∷ filter (λ y. not (test y)) xs) (filter (λ y. not (test y)) xs)) h.0 ∙ none_left test xs h.1

  pub filter_none : (test : A → Bool) (xs : List A) → filter (λ y. not (test y)) (filter test xs) ≡ []
  filter_none test [] = refl
  filter_none test (x ∷ xs) = by (test x) refl (filter_none test xs)
    where
      by : (b : Bool) → test x ≡ b → filter (λ y. not (test y)) (filter test xs) ≡ [] → filter (λ y. not (test y)) (cond b (x ∷ filter test xs) (filter test xs)) ≡ []
      by true e h = ap (λ c. cond (not c) (x ∷ filter (λ y. not (test y)) (filter test xs)) (filter (λ y. not (test y)) (filter test xs))) e ∙ h
      by false e h = h
