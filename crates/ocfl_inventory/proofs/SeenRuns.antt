-- Neighbours in a list that is seen by f.
use Rattle.std.proofs.Common.{◌≡◌, List, [], ◌∷◌, ◌++◌, refl, sym, ◌∙◌, ap, Bool, ℕ, ◌-◌, ◌≤◌, arith, map, length, drop, length-drop}
use Rattle.std.proofs.lemmas.List.{append-nil}
use Rattle.ocfl_inventory.specs.Internal.Beside.{hits}

few_seen : {P A : Type 0} (f : P → A) (test : A → A → Bool) (ys : List P) → length ys ≤ 1 → hits test (map f ys) ≡ []
few_seen f test [] h = refl
few_seen f test (y ∷ []) h = refl
few_seen f test (y ∷ z ∷ ys) h = absurd (omega (arith, h))

pub few_hits : {A : Type 0} (test : A → A → Bool) (xs : List A) (i : ℕ) → length xs ≤ i → hits test (drop (i - 1) xs) ≡ []
few_hits {A = A} test xs i h = few (drop (i - 1) xs) (simp length-drop (omega arith))
  where
    few : (ys : List A) → length ys ≤ 1 → hits test ys ≡ []
    few [] l = refl
    few (y ∷ []) l = refl
    few (y ∷ z ∷ ys) l = absurd (omega (arith, l))

pub seen_done : {P A : Type 0} (f : P → A) (test : A → A → Bool) (xs : List P) (i : ℕ) (front total : List A) → length xs ≤ i → front ++ hits test (map f (drop (i - 1) xs)) ≡ total → front ≡ total
seen_done f test xs i front total h so_far =
    let few : length (drop (i - 1) xs) ≤ 1 = simp length-drop (omega arith) in
    sym (ap (λ ys. front ++ ys) (few_seen f test (drop (i - 1) xs) few) ∙ append-nil front) ∙ so_far
