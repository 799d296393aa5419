-- Worked cases: the status and the note with which calls end (the manual page, EXIT STATUS and
-- OUTPUT ON STANDARD ERROR).
use Rattle.std.proofs.Common.{◌≡◌, refl, arith, [], ◌∷◌, codes, true, false, None}
use Rattle.ocfl_tree.specs.Place.{Place}
use Rattle.ocfl_report.specs.declared.further.Further.TheVariants.{Nothing}
use Rattle.ocfl_cursor.specs.Cursor.{Cursor, behind}
use Rattle.ocfl_cursor.specs.declared.reading.CursorStop.TheVariants as stop
use Rattle.ocfl_cursor.specs.declared.part_reading.PartCursorStop.TheVariants as part_stop
use Rattle.ocfl_cursor.specs.declared.refused.PartRefused.TheVariants as part
use Rattle.ocfl_cursor.specs.declared.refused.Refused.TheVariants as refused
use Rattle.ocfl_cursor.specs.declared.showing.ShowStop.TheVariants as show
use Rattle.ocfl_item.specs.declared.fault.Fault.TheVariants as fault
use Rattle.ocfl_scrub.specs.declared.stop.ReportStop.TheVariants as halt
use Rattle.ocfl_scrub.specs.declared.checking.AuditStatus.TheVariants as end
use Rattle.ocfl_scrub.specs.declared.running.RunStatus.TheVariants as run
use Rattle.ocfl_scrub.specs.declared.cycling.CycleStatus.TheVariants as cycle
use Rattle.ocfl_scrub.specs.declared.note.Note.TheVariants as note
use Rattle.ocfl_scrub.specs.Noting.{ended_note, IsStopNote, IsCheckNote, IsAuditNote, run_summary, IsRunNote, IsCycleNote, IsUnreadNote, IsPartRefusedNote, IsUnshownNote}
use Rattle.ocfl_scrub.specs.Scoping.{IsBranchNote, IsPartUnreadNote}

-- a directory that could not be listed
abbrev o : Place
o = codes "o" ∷ []

-- after the second run of a third cycle, whose runs have spent 9
abbrev third_cycle : Cursor
third_cycle = record { cycle = 3; runs = 2; spent = 9; files = 3; further = Nothing; state = behind o }

-- ---- stops

-- each has its own note, and the status is 3 whatever was found before
notes_of_stops : IsStopNote (halt.Fault (fault.Store o)) (note.StoppedAt o) × IsStopNote (halt.Fault fault.Memory) note.OutOfMemory × IsStopNote halt.Output note.OutputFailed
notes_of_stops = (refl, refl, refl)

-- ---- checks and audits

ended_checks : (ended_note true ≡ note.Nothing) × (ended_note false ≡ note.NoItem)
ended_checks = (refl, refl)

-- a place with lines and no finding, one with a finding, and one without lines
notes_of_checks : IsCheckNote true false end.Ended 0 note.Nothing × IsCheckNote true true end.Ended 1 note.Nothing × IsCheckNote false false end.Ended 0 note.NoItem
notes_of_checks = ((refl, refl), (refl, refl), (refl, refl))

notes_of_audits : IsAuditNote false end.Ended 0 note.Nothing × IsAuditNote true end.Ended 1 note.Nothing × IsAuditNote true (end.Stopped halt.Output) 3 note.OutputFailed × IsAuditNote false (end.Stopped halt.Output) 3 note.OutputFailed
notes_of_audits = ((refl, refl), (refl, refl), (refl, refl), (refl, refl))

-- a branch in which no item went out ends with 2
note_of_an_empty_branch : IsBranchNote false end.Ended None 2 note.EmptyBranch
note_of_an_empty_branch = (refl, refl)

-- ---- runs and cycles

-- a run that spent 4 of those 9 says 4
summary_of_a_run : run_summary third_cycle 4 false ≡ note.RunMade 3 2 4 false
summary_of_a_run = refl

-- and with items left that they are, at the end that they are not
notes_of_runs : IsRunNote third_cycle 4 false run.Spent 0 (note.RunMade 3 2 4 false) × IsRunNote third_cycle 4 true run.Ended 1 (note.RunMade 3 2 4 true) × IsRunNote third_cycle 0 false run.Worn 3 note.CursorWorn
    × (IsRunNote third_cycle 4 true run.Ended 0 (note.RunMade 3 2 4 true) → ⊥)
notes_of_runs = ((refl, refl), (refl, refl), (refl, refl), λ h. let m : 0 ≡ 1 = h.0 in omega (arith, m))

notes_of_cycles : IsCycleNote 2 9 false cycle.Spent 0 (note.CycleMade 2 9 false) × IsCycleNote 2 9 true cycle.Ended 1 (note.CycleMade 2 9 true)
notes_of_cycles = ((refl, refl), (refl, refl))

-- ---- cursors that are not read

-- 3 if the file could not be read or memory was refused, and 4 with the reason for which the bytes
-- are refused
notes_of_unread_cursors : IsUnreadNote stop.Read 3 note.CursorFileFailed × IsUnreadNote (stop.Refused refused.Memory) 3 note.OutOfMemory × IsUnreadNote (stop.Refused refused.Version) 4 (note.CursorRefused refused.Version)
notes_of_unread_cursors = ((refl, refl), (refl, refl), (refl, refl))

notes_of_refused_parts : IsPartRefusedNote part.OtherPart 4 (note.PartCursorRefused part.OtherPart) × IsPartRefusedNote (part.Text refused.Damaged) 4 (note.PartCursorRefused (part.Text refused.Damaged)) × IsPartRefusedNote (part.Text refused.Memory) 3 note.OutOfMemory
notes_of_refused_parts = ((refl, refl), (refl, refl), (refl, refl))

notes_of_unread_parts : IsPartUnreadNote part_stop.Read 3 note.CursorFileFailed × IsPartUnreadNote (part_stop.Refused part.OtherPart) 4 (note.PartCursorRefused part.OtherPart)
notes_of_unread_parts = ((refl, refl), (refl, refl))

notes_of_unshown_cursors : IsUnshownNote (show.Whole stop.Read) 3 note.CursorFileFailed × IsUnshownNote (show.Part refused.Damaged) 4 (note.PartCursorRefused (part.Text refused.Damaged)) × IsUnshownNote (show.Part refused.Memory) 3 note.OutOfMemory
notes_of_unshown_cursors = ((refl, refl), (refl, refl), (refl, refl))
