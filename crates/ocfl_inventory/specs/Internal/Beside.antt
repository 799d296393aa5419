-- Elements beside their likes in a sorted list.
use Rattle.std.specs.Prelude.{List, [], ◌∷◌, Bool, cond}

-- each element that passes the test with the one after it
abbrev pub hits : {A : Type 0} → (A → A → Bool) → List A → List A
hits test [] = []
hits test (x ∷ []) = []
hits test (x ∷ y ∷ ys) = cond (test x y) (x ∷ hits test (y ∷ ys)) (hits test (y ∷ ys))
