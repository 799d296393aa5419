-- What a test leaves of a list.
use Rattle.std.proofs.Common.{◌≡◌, ◌≤◌, inl, inr, List, [], ◌∷◌, refl, ◌∙◌, ap, true, false, Bool, filter, length, arith}
use Rattle.std.specs.{Prelude.{cond}, List.{AllByRecursion}}
use Rattle.ocfl_tree.specs.Ascending.{IsAmong}

module _ {A : Type 0} (test : A → Bool) where
  pub left_whole : (xs : List A) → ((x : A) → IsAmong xs x → test x ≡ true) → filter test xs ≡ xs
  left_whole [] h = refl
  left_whole (x ∷ xs) h = ap (λ b. cond b (x ∷ filter test xs) (filter test xs)) (h x (inl refl)) ∙ ap (λ ys. x ∷ ys) (left_whole xs (λ y i. h y (inr i)))

  pub left_nothing : (xs : List A) → ((x : A) → IsAmong xs x → test x ≡ false) → filter test xs ≡ []
  left_nothing [] h = refl
  left_nothing (x ∷ xs) h = ap (λ b. cond b (x ∷ filter test xs) (filter test xs)) (h x (inl refl)) ∙ left_nothing xs (λ y i. h y (inr i))

  pub left_fewer : (xs : List A) → length (filter test xs) ≤ length xs
  left_fewer [] = omega arith
  left_fewer (x ∷ xs) = by (test x) (left_fewer xs)
    where
      by : (b : Bool) → length (filter test xs) ≤ length xs → length (cond b (x ∷ filter test xs) (filter test xs)) ≤ length (x ∷ xs)
      by true h = omega (arith, h)
      by false h = omega (arith, h)

  pub left_all : (P : A → Type 0) (xs : List A) → AllByRecursion P xs → AllByRecursion P (filter test xs)
  left_all P [] h = tt
  left_all P (x ∷ xs) h = by (test x) (left_all P xs h.1)
    where
      by : (b : Bool) → AllByRecursion P (filter test xs) → AllByRecursion P (cond b (x ∷ filter test xs) (filter test xs))
      by true k = (h.0, k)
      by false k = k
