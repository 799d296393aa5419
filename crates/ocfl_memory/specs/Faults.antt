-- Which calls of a tree in memory are made to fail, and how much a read gives at most.
use Rattle.std.specs.Prelude.{ℕ, ◌-◌, Bool, true, false, ◌&&◌, ◌||◌, ◌==◌, nat_lt, nat_le, if◌then◌else◌, List, [], ◌∷◌, Option, Some, None, min}
use Rattle.ocfl_tree.specs.Place.{Place, place_eq}
use Rattle.ocfl_memory.specs.declared.plan.Point.{Point}
use Rattle.ocfl_memory.specs.declared.plan.Point.TheVariants as point

pub record Faults : Type 0 where
  -- the most bytes that a read gives, if that is set
  pub step : Option ℕ
  -- which of the following calls fails, counted from 1
  pub call : Option ℕ
  -- what fails each time
  pub points : List (Place × Point)

abbrev pub no_faults : Faults
no_faults = record { step = None; call = None; points = [] }

-- whether a fault that was planned for the first is one of the second: a read fails at that offset
-- or later
abbrev pub is_met : Point → Point → Bool
is_met point.List point.List = true
is_met point.List point.Open = false
is_met point.List (point.Read offset) = false
is_met point.Open point.List = false
is_met point.Open point.Open = true
is_met point.Open (point.Read offset) = false
is_met (point.Read start) point.List = false
is_met (point.Read start) point.Open = false
is_met (point.Read start) (point.Read offset) = nat_le start offset

abbrev pub is_planned : List (Place × Point) → Place → Point → Bool
is_planned [] p call = false
is_planned (e ∷ points) p call = (place_eq e.0 p && is_met e.1 call) || is_planned points p call

-- whether the next call is the one that fails
abbrev pub is_due : Option ℕ → Bool
is_due None = false
is_due (Some k) = k == 1

-- which one it is after that call
abbrev pub due_after : Option ℕ → Option ℕ
due_after None = None
due_after (Some k) = if nat_lt 1 k then Some (k - 1) else None

-- whether the next call, this one at p, is made to fail
abbrev pub is_struck : Faults → Place → Point → Bool
is_struck faults p call = is_due faults.call || is_planned faults.points p call

-- what is planned after one more call
abbrev pub after_call : Faults → Faults
after_call faults = record faults { call = due_after faults.call }

-- how many of these many bytes a read gives
abbrev pub within_step : Option ℕ → ℕ → ℕ
within_step None n = n
within_step (Some k) n = min k n
