-- When a place at which a run stopped ends the night.
use Rattle.std.specs.Prelude.{◌≡◌, ◌⊎◌, ◌≤◌, List, Bool, true, false, Some, length}
use Rattle.ocfl_tree.specs.{Place.{Place}}
use Rattle.ocfl_item.specs.declared.fault.Fault.TheVariants as fault
use Rattle.ocfl_state.specs.Checkpoint.{Checkpoint}
use Rattle.ocfl_terms.specs.Clock.{Event}
use Rattle.ocfl_night.specs.{Done.{Done, with_begun, with_made}, Leaving.{branch_at, has_end}}
use Rattle.ocfl_night.specs.Runs.{Run, IsRunOf, events_of}
use Rattle.ocfl_terms.specs.{declared.plan.Plan.{Plan}, declared.made.Made.{Made}}
use Rattle.ocfl_terms.specs.declared.made.SliceEnd.TheVariants as slice

-- nothing is done any more about a place at which a run stopped: the night is to stop at faults; or 64
-- runs had stopped before; or the run before it had stopped there too, and 16 branches are left out, or
-- no place comes after the branch
pub data NothingHelps (strict : Bool) (d : Done) (p : Place) : Type 0 where
  asked : strict ≡ true → NothingHelps strict d p
  often : 64 ≤ d.stops → NothingHelps strict d p
  again : d.tried ≡ Some p → (16 ≤ length d.left) ⊎ (has_end (branch_at p) ≡ false) → NothingHelps strict d p

-- what a run made halts a night that has done so much: after it the root could not be looked at, or it
-- stopped, and nothing helps
pub data HaltsAt (strict : Bool) (d : Done) (made : Made) (p : Place) : Type 0 where
  unread : made.end ≡ slice.Unread p → HaltsAt strict d made p
  stopped : made.end ≡ slice.Stopped (fault.Store p) → NothingHelps strict d p → HaltsAt strict d made p

-- the last run of a night, by what its clock was asked and heard, halts it
pub record IsHaltedAt (plan : Plan) (d : Done) (k : Checkpoint) (last : List Event) (p : Place) : Type 0 where
  pub run : Run
  pub is : IsRunOf plan d k run
  pub events : last ≡ events_of run
  pub halts : HaltsAt plan.stop_at_faults (with_made run.made (with_begun run.now d)) run.made p
