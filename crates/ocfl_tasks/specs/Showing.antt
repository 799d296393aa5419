-- Showing a file or the table of codes.
use Rattle.std.specs.Prelude.{◌≡◌, ◌++◌, ◌∷◌, [], ◌==◌, ℕ, Bool, true, false, List, Option, Some, None, IfSome, IsTrue, codes, if◌then◌else◌}
use Rattle.std.specs.Io.KnownBytes.{Appends}
use Rattle.ocfl_tree.specs.Place.{Text}
use Rattle.ocfl_codes.specs.{Json.{IsJsonLine, table_data}, Table.{table_text}}
use Rattle.ocfl_cursor.specs.Refused.{refused_text}
use Rattle.ocfl_cursor.specs.declared.refused.Refused.TheVariants as refused
use Rattle.ocfl_cursor.specs.declared.refused.TextKind.TheVariants as kind
use Rattle.ocfl_deed.specs.declared.deed.Deed.TheVariants as deed
use Rattle.ocfl_state.specs.CheckpointShown.{AreShown, HiddenRightly}
use Rattle.ocfl_state.specs.declared.checkpoint_showing.NotShown.{NotShown}
use Rattle.ocfl_state.specs.declared.checkpoint_showing.NotShown.TheVariants as unshown
use Rattle.ocfl_scrub.specs.{NoteText.{note_text}, declared.performing.Performed.{Performed}}
use Rattle.ocfl_scrub.specs.declared.note.Note.TheVariants as note
use Rattle.ocfl_tasks.specs.Calls.{TaskCall, Opened, Said, end_calls}

-- 4 for bytes that are refused as a checkpoint, 3 if something failed
abbrev pub unshown_status : NotShown → ℕ
unshown_status unshown.Read = 3
unshown_status unshown.Memory = 3
unshown_status unshown.Long = 4
unshown_status (unshown.Checkpoint refused.Memory) = 3
unshown_status (unshown.Checkpoint why) = 4
unshown_status (unshown.Cursor why) = 3

-- what is said of it
abbrev pub unshown_text : NotShown → Text
unshown_text unshown.Read = codes "checkpoint file failed"
unshown_text unshown.Memory = codes "out of memory"
unshown_text unshown.Long = codes "checkpoint refused: " ++ refused_text (refused.NotA kind.Checkpoint)
unshown_text (unshown.Checkpoint refused.Memory) = codes "out of memory"
unshown_text (unshown.Checkpoint why) = codes "checkpoint refused: " ++ refused_text why
unshown_text (unshown.Cursor why) = codes "checkpoint file failed"

-- a file was opened, whatever it has
pub record IsOpened (file : Text) (old new : List TaskCall) : Type 0 where
  pub has : Option Text
  pub opens : new ≡ old ++ Opened file (Some has) ∷ []

-- what is said of lines that were written with this status
abbrev pub unwritten : ℕ → List TaskCall
unwritten status = if status == 0 then [] else Said (note_text note.OutputFailed) ∷ []

-- the table of codes, as JSON or as text
abbrev pub IsTable : Bool → Text → Type 0
IsTable true text = IsJsonLine text table_data
IsTable false text = text ≡ table_text

-- the lines that are shown of a reader of these bytes
abbrev pub AreShownOf : Option Text → Text → Type 0
AreShownOf known lines = IfSome known (λ all. AreShown all lines)

-- bytes that are rightly refused as a checkpoint
pub record IsRefusedOf (known : Option Text) : Type 0 where
  pub why : NotShown
  pub status : unshown_status why ≡ 4
  pub rightly : IfSome known (λ all. HiddenRightly all why)

-- such a text went out
pub record Shows (IsShown : Text → Type 0) (old new : Option Text) : Type 0 where
  pub shown : Text
  pub is : IsShown shown
  pub wrote : Appends old new shown

-- a cursor was shown with an answer like this, which was said, and whose status is this
pub record HasShown (Answers : Performed → Type 0) (told : Bool) (old new : List TaskCall) (status : ℕ) : Type 0 where
  pub done : Performed
  pub answers : Answers done
  pub says : IsTrue told → new ≡ old ++ end_calls deed.Show done.note None (codes "")
  pub status_is : status ≡ done.status
