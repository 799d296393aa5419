-- The way to a place; in which directory one lies; the front of a list; which faults are failures.
use Rattle.std.specs.Prelude.{◌≡◌, ℕ, List, [], ◌∷◌, ◌++◌, Option, Some, None}
use Rattle.ocfl_tree.specs.Place.{Place, Text}
use Rattle.ocfl_rules.specs.{Between.{IsWithin}, Zone.{beginnings}}
use Rattle.ocfl_item.specs.declared.fault.Fault.{Fault}
use Rattle.ocfl_item.specs.declared.fault.Fault.TheVariants as fault

-- the proper beginnings of a place, the root first, and then the place
abbrev pub way_to : Place → List Place
way_to p = beginnings p ++ p ∷ []

-- a place lies right in a directory that is not after this place, if one is given
abbrev pub LiesUpTo : Option Place → Place → Type 0
LiesUpTo to q = (d : Place) (n : Text) → q ≡ d ++ n ∷ [] → IsWithin to d

-- one list begins the other
abbrev pub IsFront : {A : Type 0} → List A → List A → Type 0
IsFront {A = A} front whole = (rest : List A) × (whole ≡ front ++ rest)

-- the place at which the store failed
abbrev pub failed_place : Fault → Option Place
failed_place (fault.Store q) = Some q
failed_place fault.Memory = None

-- that is one failure
abbrev pub failures_at : Option Place → ℕ
failures_at (Some q) = 1
failures_at None = 0

abbrev pub failures_by : Fault → ℕ
failures_by why = failures_at (failed_place why)
