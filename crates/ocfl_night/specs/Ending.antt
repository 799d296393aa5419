-- Why runs, slices and nights end, and what they count.
use Rattle.std.specs.Prelude.{◌≡◌, ◌⊎◌, ℕ, false, Option, Some, None, Result, Ok, Err, ⊤}
use Rattle.ocfl_tree.specs.Place.{Place}
use Rattle.ocfl_item.specs.declared.fault.Fault.TheVariants as fault
use Rattle.ocfl_cursor.specs.{Cursor.{Cursor}, Moves.{after_run}}
use Rattle.ocfl_cursor.specs.declared.limits.Limits.{Limits}
use Rattle.ocfl_scrub.specs.{Running.{IsPaid, begun, limits_of, state_after}, declared.running.RunEnd.{RunEnd}}
use Rattle.ocfl_scrub.specs.declared.running.RunStatus.{RunStatus}
use Rattle.ocfl_scrub.specs.declared.running.RunStatus.TheVariants as status
use Rattle.ocfl_scrub.specs.declared.stop.ReportStop.TheVariants as report
use Rattle.ocfl_state.specs.declared.checkpoint_parts.Phase.{Phase}
use Rattle.ocfl_state.specs.declared.checkpoint_parts.Phase.TheVariants.{Open, Closing}
use Rattle.ocfl_state.specs.{Checkpoint.{Checkpoint}, declared.folder.FolderTrouble.TheVariants.{Memory}}
use Rattle.ocfl_identity.specs.declared.identity.NoIdentity.{NoIdentity}
use Rattle.ocfl_identity.specs.declared.identity.NoIdentity.TheVariants as none
use Rattle.ocfl_state.specs.declared.checkpoint_parts.ReportMark.{ReportMark}
use Rattle.ocfl_night.specs.{Steps.{IsNext}, declared.pause.Pause.{Pause}}
use Rattle.ocfl_terms.specs.declared.plan.Halt.{Halt}
use Rattle.ocfl_night.specs.declared.not_opened.NotOpened.{NotOpened}
use Rattle.ocfl_terms.specs.declared.made.Made.{Made}
use Rattle.ocfl_terms.specs.{declared.made.SliceEnd.{SliceEnd}, declared.stop.Stop.{Stop}}
use Rattle.ocfl_terms.specs.declared.plan.Halt.TheVariants as halt
use Rattle.ocfl_night.specs.declared.pause.Pause.TheVariants as pause
use Rattle.ocfl_night.specs.declared.not_opened.NotOpened.TheVariants as unopened
use Rattle.ocfl_terms.specs.declared.refusal.Refusal.TheVariants.{NoRoot}
use Rattle.ocfl_terms.specs.declared.made.SliceEnd.TheVariants as slice
use Rattle.ocfl_terms.specs.declared.stop.Stop.TheVariants as stop

-- ---- ends

-- why a run leaves nothing: its lines did not go out whole, or it was not made
abbrev pub lost_by : RunStatus → Option Stop
lost_by (status.Stopped report.Output) = Some (stop.Folder Memory)
lost_by status.Worn = Some stop.Worn
lost_by _ = None

-- how a slice ended whose run is kept
abbrev pub slice_end : RunStatus → SliceEnd
slice_end status.Ended = slice.Ended
slice_end (status.Stopped (report.Fault why)) = slice.Stopped why
slice_end _ = slice.Spent

-- the place at which a slice stopped; else what halts the night then, if anything does
abbrev pub place_or_pause : SliceEnd → Result Place (Option Pause)
place_or_pause slice.Ended = Err None
place_or_pause slice.Spent = Err None
place_or_pause (slice.Stopped (fault.Store p)) = Ok p
place_or_pause (slice.Stopped why) = Err (Some (pause.Stopped why))
place_or_pause (slice.Unread p) = Err (Some (pause.Stopped (fault.Store p)))
place_or_pause slice.RootChanged = Err (Some pause.RootChanged)

-- what ends a night whose cycle has not ended
abbrev pub halt_of : Pause → Halt
halt_of pause.TimeUp = halt.TimeUp
halt_of pause.Spent = halt.Spent
halt_of pause.Closing = halt.Spent
halt_of pause.Asked = halt.Asked
halt_of (pause.Stopped why) = halt.Stopped why
halt_of pause.RootChanged = halt.RootChanged

-- and one that has ended this cycle, or none
abbrev pub halt_after : Option ℕ → Pause → Halt
halt_after (Some cycle) p = halt.CycleEnded cycle
halt_after None p = halt_of p

-- the cycle that has ended by a checkpoint of this phase
abbrev pub cycle_ended : Phase → ℕ → Option ℕ
cycle_ended Open cycle = None
cycle_ended Closing cycle = Some cycle

-- the cycle of a checkpoint's report: that of its cursor, or the next one if that has ended and the
-- report of the next one is open
abbrev pub cycle_in : Phase → Cursor → ℕ
cycle_in Open c = (begun c).cycle
cycle_in Closing c = c.cycle

abbrev pub cycle_of : Checkpoint → ℕ
cycle_of k = cycle_in k.phase k.cursor

-- what ended a night that was not begun
abbrev pub unbegun_by : NotOpened → Halt
unbegun_by (unopened.Refused why) = halt.Refused why
unbegun_by (unopened.Troubled why) = halt.Troubled why

-- and one whose runs ended so
abbrev pub ended_by : Result Halt Stop → Halt
ended_by (Ok h) = h
ended_by (Err why) = halt.Troubled why

-- why a night is not begun over a root that has no identity
abbrev pub unopened_by : NoIdentity → NotOpened
unopened_by none.Undeclared = unopened.Refused NoRoot
unopened_by (none.Unread p) = unopened.Troubled (stop.Unread p)
unopened_by none.Memory = unopened.Troubled (stop.Folder Memory)

-- ---- figures

-- a run kept to these limits, and its cursor counts what it spent and is after the last place that
-- was taken, if any was
pub record KeepsTo (c : Cursor) (limits : Limits) (ran : RunEnd) : Type 0 where
  pub last : Option Place
  pub cursor : ran.cursor ≡ after_run (begun c) ran.spent ran.files (state_after ran.end last)
  pub paid : IsPaid (limits_of limits) ran.spent ran.files

-- a slice made what a run gave
pub record IsMadeBy (ran : RunEnd) (made : Made) : Type 0 where
  pub spent : made.spent ≡ ran.spent
  pub files : made.files ≡ ran.files
  pub found : made.found ≡ ran.found
  pub end : made.end ≡ slice_end ran.end
  pub cursor : made.checkpoint.cursor ≡ ran.cursor

-- after a run the root was gone, or another one, or could not be looked at
abbrev pub IsAway : SliceEnd → Type 0
IsAway slice.RootChanged = ⊤
IsAway (slice.Unread p) = ⊤
IsAway end = ⊥

-- nothing is kept of a slice, since after it the root was not that of before
pub record IsUnkept (k : Checkpoint) (made : Made) : Type 0 where
  pub checkpoint : made.checkpoint ≡ k
  pub spent : made.spent ≡ 0
  pub files : made.files ≡ 0
  pub found : made.found ≡ false
  pub away : IsAway made.end

-- a checkpoint after a run
abbrev pub IsNextBy : Checkpoint → RunEnd → Checkpoint → Type 0
IsNextBy k ran next = (report : ReportMark) × IsNext k ran report next

-- what a slice made is what a run within these limits did
abbrev pub IsRunKept : Checkpoint → Limits → Made → Type 0
IsRunKept k limits made = (ran : RunEnd) × (KeepsTo k.cursor limits ran × IsMadeBy ran made × IsNextBy k ran made.checkpoint)

-- or nothing is kept of it
abbrev pub IsSlice : Checkpoint → Limits → Made → Type 0
IsSlice k limits made = IsUnkept k made ⊎ IsRunKept k limits made
