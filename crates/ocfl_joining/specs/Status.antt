-- The exit status of a joining.
use Rattle.std.specs.Prelude.{ℕ, false, not}
use Rattle.ocfl_status.specs.Status.{status_of as exit_status}
use Rattle.ocfl_joining.specs.declared.status.CycleEnd.{CycleEnd}
use Rattle.ocfl_joining.specs.declared.status.CycleEnd.TheVariants.{IsJoined, IsHindered}

-- it lacks something where the joined report is not whole, or parts were named that keep it from being
-- joined
abbrev pub status_of : CycleEnd → ℕ
status_of (IsJoined whole) = exit_status (not whole) false
status_of (IsHindered named) = exit_status named false
