-- The status and the text that a command ends with.
use Rattle.std.specs.Prelude.{◌≡◌, ◌≢◌, ◌⊎◌, ◌≤◌, ℕ, List, Bool, true, false, Option, Some, None, Vec, ⊤}
use Rattle.std.specs.declared.alloc.Global.{Global}
use Rattle.ocfl_tree.specs.Place.{Text, Place}
use Rattle.ocfl_report.specs.declared.further.Further.{Further}
use Rattle.ocfl_cursor.specs.{Cursor.{Cursor, IsCursor}, declared.reading.CursorStop.{CursorStop}}
use Rattle.ocfl_cursor.specs.declared.refused.PartRefused.{PartRefused}
use Rattle.ocfl_cursor.specs.declared.showing.ShowStop.{ShowStop}
use Rattle.ocfl_cursor.specs.declared.reading.CursorStop.TheVariants as stop
use Rattle.ocfl_cursor.specs.declared.refused.PartRefused.TheVariants as part
use Rattle.ocfl_cursor.specs.declared.refused.Refused.TheVariants as refused
use Rattle.ocfl_cursor.specs.declared.showing.ShowStop.TheVariants as show
use Rattle.ocfl_item.specs.declared.fault.Fault.TheVariants as fault
use Rattle.ocfl_scrub.specs.declared.stop.ReportStop.TheVariants as halt
use Rattle.ocfl_scrub.specs.{Call.{Call, IsUnfailing}, Taking.{WritesLines}, Checking.{CheckEnds}}
use Rattle.ocfl_scrub.specs.WholeAudit.{AuditEndsWithin}
use Rattle.ocfl_scrub.specs.{Running.{RunsFromWithin, RunsCleanlyWithin}, Chaining.{CycleOfRunsWithin}}
use Rattle.ocfl_scrub.specs.Cycling.{HeadlineOf}
use Rattle.ocfl_scrub.specs.Types.{AuditEnd, AuditStatus, CheckEnd, CycleEnd, CycleStatus, Note, ReportStop, RunEnd, RunStatus}
use Rattle.ocfl_scrub.specs.declared.checking.AuditStatus.TheVariants as end
use Rattle.ocfl_rules.specs.{Parts.{Part, whole}, Runs.{Limits}}
use Rattle.ocfl_scrub.specs.declared.running.RunStatus.TheVariants as run
use Rattle.ocfl_scrub.specs.declared.cycling.CycleStatus.TheVariants as cycle
use Rattle.ocfl_scrub.specs.declared.note.Note.TheVariants as note

-- 0 without a finding, 1 with one
abbrev pub status_of : Bool → ℕ
status_of true = 1
status_of false = 0

-- ---- of every store

-- which status comes with which note
abbrev pub IsStatus : ℕ → Note → Type 0
IsStatus status note.Nothing = (status ≡ 0) ⊎ (status ≡ 1)
IsStatus status note.NoItem = status ≡ 0
IsStatus status note.EmptyBranch = status ≡ 2
IsStatus status note.BadPath = status ≡ 2
IsStatus status (note.StoppedAt p) = status ≡ 3
IsStatus status note.OutOfMemory = status ≡ 3
IsStatus status note.OutputFailed = status ≡ 3
IsStatus status (note.RunMade cycle runs cost ended) = (status ≡ 0) ⊎ (status ≡ 1)
IsStatus status (note.CycleMade runs cost ended) = (status ≡ 0) ⊎ (status ≡ 1)
IsStatus status note.CursorWorn = status ≡ 3
IsStatus status note.CursorFileFailed = status ≡ 3
IsStatus status (note.CursorRefused why) = (status ≡ 4) × (why ≢ refused.Memory)
IsStatus status (note.PartCursorRefused why) = (status ≡ 4) × (why ≢ part.Text refused.Memory)
IsStatus status (note.OtherAudit further) = status ≡ 4

-- what is said after a stop
abbrev pub IsStopSaid : Note → Type 0
IsStopSaid (note.StoppedAt p) = ⊤
IsStopSaid note.OutOfMemory = ⊤
IsStopSaid note.OutputFailed = ⊤
IsStopSaid n = ⊥

-- what is said of the file that a cursor is read from
abbrev pub IsFileSaid : Note → Type 0
IsFileSaid note.CursorFileFailed = ⊤
IsFileSaid (note.CursorRefused why) = ⊤
IsFileSaid (note.PartCursorRefused why) = ⊤
IsFileSaid n = ⊥

-- what is said if no cursor was read
abbrev pub IsUnreadSaid : Note → Type 0
IsUnreadSaid note.OutOfMemory = ⊤
IsUnreadSaid n = IsFileSaid n

-- what each command can say
abbrev pub IsAuditSaid : Note → Type 0
IsAuditSaid note.Nothing = ⊤
IsAuditSaid n = IsStopSaid n

abbrev pub IsCheckSaid : Note → Type 0
IsCheckSaid note.Nothing = ⊤
IsCheckSaid note.NoItem = ⊤
IsCheckSaid note.BadPath = ⊤
IsCheckSaid n = IsStopSaid n

abbrev pub IsCycleSaid : Note → Type 0
IsCycleSaid (note.CycleMade runs cost ended) = ⊤
IsCycleSaid n = IsStopSaid n

-- a run whose cursor was read
abbrev pub IsRanSaid : Note → Type 0
IsRanSaid (note.RunMade cycle runs cost ended) = ⊤
IsRanSaid note.CursorWorn = ⊤
IsRanSaid n = IsStopSaid n

abbrev pub IsRunSaid : Note → Type 0
IsRunSaid note.CursorFileFailed = ⊤
IsRunSaid (note.CursorRefused why) = ⊤
IsRunSaid (note.OtherAudit further) = ⊤
IsRunSaid n = IsRanSaid n

abbrev pub IsShowSaid : Note → Type 0
IsShowSaid note.Nothing = ⊤
IsShowSaid note.OutputFailed = ⊤
IsShowSaid (note.PartCursorRefused part.OtherPart) = ⊥
IsShowSaid n = IsUnreadSaid n

-- a path that is no place's, or one that could not be read because memory ran out
abbrev pub IsRefused : ℕ → Note → Type 0
IsRefused status n = ((status ≡ 2) × (n ≡ note.BadPath)) ⊎ ((status ≡ 3) × (n ≡ note.OutOfMemory))

-- some lines went out, and the status says whether one of them is a finding
abbrev pub WritesWithStatus : Option (List ℕ) → Option (List ℕ) → ℕ → Type 0
WritesWithStatus old new status = (finding : Bool) × ((status ≡ status_of finding) × WritesLines old new finding)

-- some lines went out, each whole
abbrev pub WritesWhole : Option (List ℕ) → Option (List ℕ) → Type 0
WritesWhole old new = (finding : Bool) × WritesLines old new finding

-- what a check or an audit is ended with on any store, by what the output is before it and after it
pub record ReportsOnAnyStore {O : Type 0} (contents : O → Option (List ℕ)) (old new : O) (status : ℕ) (n : Note) : Type 0 where
  pub status_is : IsStatus status n
  pub lines : n ≡ note.Nothing → WritesWithStatus (contents old) (contents new) status
  pub uncut : n ≢ note.OutputFailed → WritesWhole (contents old) (contents new)

-- what a command is ended with if no cursor was read
pub record EndsUnread (status : ℕ) (n : Note) : Type 0 where
  pub status_is : IsStatus status n
  pub stops : 3 ≤ status
  pub said : IsUnreadSaid n

-- ---- how a call ended, and what is said

-- a check that ended without an item says so
abbrev pub ended_note : Bool → Note
ended_note true = note.Nothing
ended_note false = note.NoItem

-- a walk that had failed before is never met
abbrev pub IsStopNote : ReportStop → Note → Type 0
IsStopNote (halt.Fault (fault.Store p)) n = n ≡ note.StoppedAt p
IsStopNote (halt.Fault fault.Memory) n = n ≡ note.OutOfMemory
IsStopNote halt.Output n = n ≡ note.OutputFailed

-- what a check ended with
abbrev pub IsCheckNote : Bool → Bool → AuditStatus → ℕ → Note → Type 0
IsCheckNote item finding end.Ended status n = (status ≡ status_of finding) × (n ≡ ended_note item)
IsCheckNote item finding (end.Stopped why) status n = (status ≡ 3) × IsStopNote why n

-- what an audit ended with
abbrev pub IsAuditNote : Bool → AuditStatus → ℕ → Note → Type 0
IsAuditNote finding end.Ended status n = (status ≡ status_of finding) × (n ≡ note.Nothing)
IsAuditNote finding (end.Stopped why) status n = (status ≡ 3) × IsStopNote why n

-- what a run is said to have done: the cycle and the runs of the cursor that it answered, and its
-- own cost
abbrev pub run_summary : Cursor → ℕ → Bool → Note
run_summary c spent whole = note.RunMade c.cycle c.runs spent whole

-- what a run ended with
abbrev pub IsRunNote : Cursor → ℕ → Bool → RunStatus → ℕ → Note → Type 0
IsRunNote c spent finding run.Ended status n = (status ≡ status_of finding) × (n ≡ run_summary c spent true)
IsRunNote c spent finding run.Spent status n = (status ≡ status_of finding) × (n ≡ run_summary c spent false)
IsRunNote c spent finding (run.Stopped why) status n = (status ≡ 3) × IsStopNote why n
IsRunNote c spent finding run.Worn status n = (status ≡ 3) × (n ≡ note.CursorWorn)

-- what a cycle ended with
abbrev pub IsCycleNote : ℕ → ℕ → Bool → CycleStatus → ℕ → Note → Type 0
IsCycleNote runs spent finding cycle.Ended status n = (status ≡ status_of finding) × (n ≡ note.CycleMade runs spent true)
IsCycleNote runs spent finding cycle.Spent status n = (status ≡ status_of finding) × (n ≡ note.CycleMade runs spent false)
IsCycleNote runs spent finding (cycle.Stopped why) status n = (status ≡ 3) × IsStopNote why n

-- what it is ended with if no cursor was read
abbrev pub IsUnreadNote : CursorStop → ℕ → Note → Type 0
IsUnreadNote stop.Read status n = (status ≡ 3) × (n ≡ note.CursorFileFailed)
IsUnreadNote (stop.Refused refused.Memory) status n = (status ≡ 3) × (n ≡ note.OutOfMemory)
IsUnreadNote (stop.Refused why) status n = (status ≡ 4) × (n ≡ note.CursorRefused why)

-- what it is ended with if the cursor that was read is of an audit with another option
abbrev pub IsOtherNote : Further → ℕ → Note → Type 0
IsOtherNote other status n = (status ≡ 4) × (n ≡ note.OtherAudit other)

-- what it is ended with if the cursor of a part is refused
abbrev pub IsPartRefusedNote : PartRefused → ℕ → Note → Type 0
IsPartRefusedNote (part.Text refused.Memory) status n = (status ≡ 3) × (n ≡ note.OutOfMemory)
IsPartRefusedNote why status n = (status ≡ 4) × (n ≡ note.PartCursorRefused why)

-- what it is ended with if nothing is shown
abbrev pub IsUnshownNote : ShowStop → ℕ → Note → Type 0
IsUnshownNote (show.Whole why) status n = IsUnreadNote why status n
IsUnshownNote (show.Part why) status n = IsPartRefusedNote (part.Text why) status n

-- the place was checked, and the status and the text are those of the check
pub record ChecksWithNote (call : Call) (p : Place) (status : ℕ) (n : Note) : Type 0 where
  pub ran : CheckEnd
  pub checks : CheckEnds call p ran.item ran.found ran.end
  pub says : IsCheckNote ran.item ran.found ran.end status n

-- a part was audited, and what is said is said of that audit
pub record AuditsWithNote (Says : AuditEnd → Type 0) (call : Call) (part : Part) : Type 0 where
  pub ran : AuditEnd
  pub audits : AuditEndsWithin call part ran.last ran.found ran.end
  pub says : Says ran

-- the same if the text of the cursor is handed back, or if there was no memory for it
abbrev pub IsStoredNote : (Cursor → Text) → Cursor → ℕ → Bool → RunStatus → ℕ → Note → Option (Vec ℕ Global) → Type 0
IsStoredNote text_of c spent finding how status n None = (status ≡ 3) × (n ≡ note.OutOfMemory)
IsStoredNote text_of c spent finding how status n (Some stored) = (stored.items ≡ text_of c) × IsRunNote c spent finding how status n

-- a run of a part was made from a cursor, and the status, the text and what is handed back are
-- those of the run
pub record RunsWithNote (call : Call) (part : Part) (text_of : Cursor → Text) (c : Cursor) (limits : Limits) (status : ℕ) (n : Note) (stored : Option (Vec ℕ Global)) : Type 0 where
  pub ran : RunEnd
  pub runs : RunsFromWithin call part c limits ran
  pub clean : IsUnfailing call → RunsCleanlyWithin call part c limits ran.spent ran.files ran.found ran.end
  pub keeps : IsCursor ran.cursor
  pub says : IsStoredNote text_of ran.cursor ran.spent ran.found ran.end status n stored

-- a cycle was made, and the status and the text are those of the cycle
pub record CyclesWithNote (call : Call) (limits : List Limits) (status : ℕ) (n : Note) : Type 0 where
  pub ran : CycleEnd
  pub cycles : CycleOfRunsWithin call whole limits ran
  pub headline : IsUnfailing call → HeadlineOf call limits ran.runs ran.end
  pub count_is : ran.runs ≡ ran.cursor.runs
  pub spent_is : ran.spent ≡ ran.cursor.spent
  pub says : IsCycleNote ran.runs ran.spent ran.found ran.end status n
