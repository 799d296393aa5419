-- Sets as lists in order, each element once.
use Rattle.std.specs.{Prelude.{◌≡◌, ◌⊎◌, List, [], ◌∷◌, ⊤}, Ordering.{match_ordering}}
use Rattle.std.specs.{declared.cmp.Ordering.{Ordering}, declared.cmp.Ordering.TheVariants.{Less}}

abbrev pub insert_once : {A : Type 0} → (A → A → Ordering) → A → List A → List A
insert_once cmp x [] = x ∷ []
insert_once cmp x (y ∷ ys) = match_ordering (cmp x y) (x ∷ y ∷ ys) (y ∷ ys) (y ∷ insert_once cmp x ys)

-- the elements in order, each once
abbrev pub ascending : {A : Type 0} → (A → A → Ordering) → List A → List A
ascending cmp [] = []
ascending cmp (x ∷ xs) = insert_once cmp x (ascending cmp xs)

-- x comes before each element
abbrev pub IsBeforeAll : {A : Type 0} → (A → A → Ordering) → A → List A → Type 0
IsBeforeAll cmp x [] = ⊤
IsBeforeAll cmp x (y ∷ ys) = (cmp x y ≡ Less) × IsBeforeAll cmp x ys

-- each element comes before all later ones
abbrev pub IsAscending : {A : Type 0} → (A → A → Ordering) → List A → Type 0
IsAscending cmp [] = ⊤
IsAscending cmp (x ∷ xs) = IsBeforeAll cmp x xs × IsAscending cmp xs

-- x is one of the elements
abbrev pub IsAmong : {A : Type 0} → List A → A → Type 0
IsAmong [] x = ⊥
IsAmong (y ∷ ys) x = (x ≡ y) ⊎ IsAmong ys x
