-- A cycle, of the whole or of a part, as the runs that it made, each from the cursor that the one
-- before it answered.
use Rattle.std.specs.{Prelude.{◌≡◌, ◌≤◌, ◌⊎◌, List, [], ◌∷◌, ◌++◌, map, length}, List.{list_any}}
use Rattle.ocfl_rules.specs.{Parts.{Part}, Runs.{Limits}}
use Rattle.ocfl_cursor.specs.Cursor.{Cursor, new_cursor}
use Rattle.ocfl_item.specs.declared.fault.Fault.TheVariants as fault
use Rattle.ocfl_scrub.specs.declared.stop.ReportStop.TheVariants as halt
use Rattle.ocfl_scrub.specs.{Call.{Call, call_of}, Running.{RunsFromWithin}}
use Rattle.ocfl_scrub.specs.Types.{CycleEnd, CycleStatus, ReportStop, RunEnd, RunStatus}
use Rattle.ocfl_scrub.specs.declared.running.RunStatus.TheVariants as run
use Rattle.ocfl_scrub.specs.declared.cycling.CycleStatus.TheVariants as status

-- a run: the call that it was, its limits, and what it answered
pub record MadeRun : Type 0 where
  pub call : Call
  pub limits : Limits
  pub ran : RunEnd

-- a call was these calls, one after the other, and nothing besides: each began with the store and
-- the output that the one before it left
abbrev pub IsMadeOf : Call → List Call → Type 0
IsMadeOf call [] = (call.after ≡ call.before) × (call.new ≡ call.old)
IsMadeOf call (k ∷ calls) = (k ≡ call_of call.further call.root call.before k.after call.old k.new) × IsMadeOf (call_of call.further call.root k.after call.after k.new call.new) calls

-- a call was these runs and nothing besides, from a cursor to one: each began with the cursor, the
-- store and the output that the one before it left, and only if its limits had left something.
-- Without a run all is left
abbrev pub AreChained : Part → Call → Cursor → RunStatus → List MadeRun → Cursor → RunStatus → Type 0
AreChained part call c so [] to end = (call.after ≡ call.before) × ((call.new ≡ call.old) × ((to ≡ c) × (so ≡ end)))
AreChained part call c so (r ∷ runs) to end = (so ≡ run.Spent) × ((r.call ≡ call_of call.further call.root call.before r.call.after call.old r.call.new) × (RunsFromWithin r.call part c r.limits r.ran × AreChained part (call_of call.further call.root r.call.after call.after r.call.new call.new) r.ran.cursor r.ran.end runs to end))

-- memory ran out after a run, for the text of its cursor, and a further run was to come
pub record IsBetweenRuns (runs : List MadeRun) (end : RunStatus) (unused : List Limits) (why : ReportStop) : Type 0 where
  pub memory : why ≡ halt.Fault fault.Memory
  pub made : 1 ≤ length runs
  pub spent : end ≡ run.Spent
  pub further : 1 ≤ length unused

-- the cycle ended as its last run did; one that has no further limits is left where they ran out
abbrev pub ChainEnds : List MadeRun → RunStatus → List Limits → CycleStatus → Type 0
ChainEnds runs end unused status.Ended = end ≡ run.Ended
ChainEnds runs end unused status.Spent = (end ≡ run.Spent) × (unused ≡ [])
ChainEnds runs end unused (status.Stopped why) = (end ≡ run.Stopped why) ⊎ IsBetweenRuns runs end unused why

-- a cycle of a part is these runs: the first from a new cursor, one for each of the first limits, none
-- of them after one that ended or stopped, and nothing between two
pub record CycleOfRunsWithin (call : Call) (part : Part) (limits : List Limits) (ran : CycleEnd) : Type 0 where
  pub over : call.before.tree ≡ call.root
  pub runs : List MadeRun
  pub end : RunStatus
  pub chained : AreChained part call (new_cursor call.further) run.Spent runs ran.cursor end
  pub unused : List Limits
  pub limits_are : limits ≡ map (λ r. r.limits) runs ++ unused
  pub ends : ChainEnds runs end unused ran.end
  pub count_is : ran.runs ≡ length runs
  pub found_is : ran.found ≡ list_any (λ r. r.ran.found) runs
