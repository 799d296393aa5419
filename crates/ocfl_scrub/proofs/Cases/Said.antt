-- Worked cases: which status comes with which note, and what each command can say (the manual page,
-- EXIT STATUS and OUTPUT ON STANDARD ERROR).
use Rattle.std.proofs.Common.{◌≡◌, refl, arith, [], codes, true, false}
use Rattle.ocfl_report.specs.declared.further.Further.TheVariants.{Nothing, Inventories}
use Rattle.ocfl_cursor.specs.declared.refused.PartRefused.TheVariants as part
use Rattle.ocfl_cursor.specs.declared.refused.Refused.TheVariants as refused
use Rattle.ocfl_scrub.specs.declared.note.Note.TheVariants as note
use Rattle.ocfl_scrub.specs.Noting.{status_of, IsStatus, IsStopSaid, IsFileSaid, IsUnreadSaid, IsAuditSaid, IsCheckSaid, IsCycleSaid, IsRanSaid, IsRunSaid, IsShowSaid}
use Rattle.ocfl_scrub.specs.{NoteText.{option_text}, Performing.{IsSilent, IsWhole}}
use Rattle.ocfl_scrub.specs.Scoping.{IsPartRunSaid}

-- ---- statuses

-- 0 if nothing was found, and 1 with findings
statuses_of_reports : (status_of false ≡ 0) × (status_of true ≡ 1)
statuses_of_reports = (refl, refl)

-- 2 for a branch without an item
status_of_an_empty_branch : IsStatus 2 note.EmptyBranch × (IsStatus 0 note.EmptyBranch → ⊥)
status_of_an_empty_branch = (refl, λ e. let m : 0 ≡ 2 = e in omega (arith, m))

-- ---- what is said after a stop, and of a cursor file

said_after_a_stop : IsStopSaid (note.StoppedAt []) × IsStopSaid note.OutOfMemory × IsStopSaid note.OutputFailed × (IsStopSaid note.Nothing → ⊥) × (IsStopSaid note.CursorWorn → ⊥)
said_after_a_stop = (tt, tt, tt, (λ h. h), λ h. h)

said_of_a_cursor_file : IsFileSaid note.CursorFileFailed × IsFileSaid (note.CursorRefused refused.Damaged) × (IsFileSaid note.CursorWorn → ⊥) × (IsFileSaid note.OutOfMemory → ⊥)
said_of_a_cursor_file = (tt, tt, (λ h. h), λ h. h)

-- a cursor that is not read may be one that failed, one that is refused, or one for which there was
-- no memory
said_of_an_unread_cursor : IsUnreadSaid note.CursorFileFailed × IsUnreadSaid (note.CursorRefused refused.Damaged) × IsUnreadSaid note.OutOfMemory × (IsUnreadSaid note.OutputFailed → ⊥)
said_of_an_unread_cursor = (tt, tt, tt, λ h. h)

-- ---- what each command can say

-- that there is no item is said of a check alone
said_by_an_audit : IsAuditSaid note.Nothing × IsAuditSaid note.OutputFailed × (IsAuditSaid note.NoItem → ⊥)
said_by_an_audit = (tt, tt, λ h. h)

-- that a branch is empty is not said of a check
said_by_a_check : IsCheckSaid note.Nothing × IsCheckSaid note.NoItem × IsCheckSaid note.BadPath × (IsCheckSaid note.EmptyBranch → ⊥)
said_by_a_check = (tt, tt, tt, λ h. h)

-- a cycle says how many runs it made, and nothing of one of them
said_by_a_cycle : IsCycleSaid (note.CycleMade 2 9 true) × IsCycleSaid note.OutOfMemory × (IsCycleSaid (note.RunMade 1 2 5 true) → ⊥)
said_by_a_cycle = (tt, tt, λ h. h)

-- a run whose cursor was read does not say that its file failed
said_by_a_run_that_was_made : IsRanSaid (note.RunMade 1 2 5 true) × IsRanSaid note.CursorWorn × (IsRanSaid note.CursorFileFailed → ⊥)
said_by_a_run_that_was_made = (tt, tt, λ h. h)

-- a run of the whole root refuses its own kind of cursor, and a run of a part the other
said_by_a_run : IsRunSaid note.CursorFileFailed × IsRunSaid (note.CursorRefused refused.Damaged) × IsRunSaid (note.OtherAudit Inventories) × (IsRunSaid (note.PartCursorRefused part.OtherPart) → ⊥)
said_by_a_run = (tt, tt, tt, λ h. h)

said_by_a_run_of_a_part : IsPartRunSaid note.CursorFileFailed × IsPartRunSaid (note.PartCursorRefused part.OtherPart) × (IsPartRunSaid (note.CursorRefused refused.Damaged) → ⊥)
said_by_a_run_of_a_part = (tt, tt, λ h. h)

-- a cursor that is shown is not said to be worn, nor to be of another part, since none is asked for
said_by_show : IsShowSaid note.Nothing × IsShowSaid note.OutputFailed × IsShowSaid (note.CursorRefused refused.Damaged) × (IsShowSaid note.CursorWorn → ⊥) × (IsShowSaid (note.PartCursorRefused part.OtherPart) → ⊥)
said_by_show = (tt, tt, tt, (λ h. h), λ h. h)

-- ---- what goes with a note

-- nothing was done for a path that is no place's, and for a worn cursor
nothing_is_done : IsSilent note.BadPath × IsSilent note.CursorWorn × (IsSilent note.NoItem → ⊥)
nothing_is_done = (tt, tt, λ h. h)

-- all lines went out if nothing is said
all_lines_went_out : IsWhole note.Nothing × IsWhole (note.CycleMade 2 9 true) × (IsWhole note.OutputFailed → ⊥)
all_lines_went_out = (tt, tt, λ h. h)

texts_of_options : (option_text Nothing ≡ codes "without --inventories") × (option_text Inventories ≡ codes "with --inventories")
texts_of_options = (refl, refl)
