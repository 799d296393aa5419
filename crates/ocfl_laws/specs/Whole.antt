-- What an audit, a run and a cycle do over the whole storage root, which is one part.
use Rattle.std.specs.Prelude.{ℕ, List, Bool, Option}
use Rattle.ocfl_tree.specs.Place.{Place}
use Rattle.ocfl_rules.specs.{Parts.{whole}, Runs.{Limits}}
use Rattle.ocfl_cursor.specs.Cursor.{Cursor}
use Rattle.ocfl_scrub.specs.Call.{Call}
use Rattle.ocfl_scrub.specs.declared.cycling.CycleStatus.{CycleStatus}
use Rattle.ocfl_scrub.specs.declared.stop.ReportStop.{ReportStop}
use Rattle.ocfl_scrub.specs.declared.running.RunEnd.{RunEnd}
use Rattle.ocfl_scrub.specs.declared.running.RunStatus.{RunStatus}
use Rattle.ocfl_scrub.specs.Running.{RunsWithin, RunStopsWithin, RunEndsWithin, RunsFromWithin, RunsCleanlyWithin}
use Rattle.ocfl_scrub.specs.Together.{CyclesWithin, CycleStopsWithin, CycleEndsWithin, CyclesToWithin}
use Rattle.ocfl_scrub.specs.WholeAudit.{AuditsWithin, AuditStopsWithin}

abbrev pub AuditsAll : Call → Option Place → Bool → Type 0
AuditsAll call last finding = AuditsWithin call whole last finding

abbrev pub AuditStops : Call → Option Place → Bool → ReportStop → Type 0
AuditStops call last finding why = AuditStopsWithin call whole last finding why

abbrev pub Runs : Call → Option Place → Option Place → Limits → ℕ → ℕ → Bool → Option Place → Type 0
Runs call from last limits spent files finding next = RunsWithin call whole from last limits spent files finding next

abbrev pub RunStops : Call → Option Place → Option Place → Limits → ℕ → ℕ → Bool → ReportStop → Type 0
RunStops call from last limits spent files finding why = RunStopsWithin call whole from last limits spent files finding why

abbrev pub RunEnds : Call → Option Place → Option Place → Limits → ℕ → ℕ → Bool → RunStatus → Type 0
RunEnds call from last limits spent files finding end = RunEndsWithin call whole from last limits spent files finding end

abbrev pub RunsFrom : Call → Cursor → Limits → RunEnd → Type 0
RunsFrom call c limits ran = RunsFromWithin call whole c limits ran

abbrev pub RunsCleanly : Call → Cursor → Limits → ℕ → ℕ → Bool → RunStatus → Type 0
RunsCleanly call c limits spent files finding end = RunsCleanlyWithin call whole c limits spent files finding end

abbrev pub Cycles : Call → Option Place → List Limits → ℕ → ℕ → Bool → ℕ → Bool → Type 0
Cycles call last limits spent files finding count ends = CyclesWithin call whole last limits spent files finding count ends

abbrev pub CycleStops : Call → Option Place → List Limits → ℕ → ℕ → Bool → ℕ → ReportStop → Type 0
CycleStops call last limits spent files finding count why = CycleStopsWithin call whole last limits spent files finding count why

abbrev pub CycleEnds : Call → Option Place → List Limits → ℕ → ℕ → Bool → ℕ → CycleStatus → Type 0
CycleEnds call last limits spent files finding count end = CycleEndsWithin call whole last limits spent files finding count end

abbrev pub CyclesTo : Call → List Limits → Cursor → Bool → CycleStatus → Type 0
CyclesTo call limits c finding end = CyclesToWithin call whole limits c finding end
