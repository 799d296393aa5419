-- What is noted of the checkpoints of a night.
use Rattle.std.specs.Prelude.{◌≡◌, ◌++◌, ◌∷◌, ◌-◌, ℕ, List, [], Option, Some, None, if◌then◌else◌, length, slice_get, string_bytes, unwrap_or}
use Rattle.ocfl_tree.specs.Place.{Text}
use Rattle.ocfl_state.specs.{Checkpoint.{Checkpoint}, declared.checkpoint_parts.Left.{Left}}
use Rattle.ocfl_files.specs.declared.reasons.Reason.{Reason}
use Rattle.ocfl_messages.specs.declared.log.LogRow.{LogRow}
use Rattle.ocfl_kept.specs.{declared.{names.About.{About}, stand.Standing.{Standing}}, Standing.{leaves_more, noted_left, standing_of}}
use Rattle.ocfl_journal.specs.{Rows.{began_row, left_row}, declared.logging.Reading.{Reading}}

-- where the nights stand by a checkpoint that is put after they stood there
abbrev pub noted_at : Standing → Checkpoint → Standing
noted_at before c = record (standing_of c) { left = noted_left before (standing_of c) }

-- the branch that a checkpoint leaves out which was not left out when the nights stood there: the last one
abbrev pub newly_left : Standing → Checkpoint → Option Left
newly_left before c = if leaves_more before (noted_at before c) then slice_get c.left (length c.left - 1) else None

-- that the night has begun is logged once: of the first checkpoint that it puts
abbrev pub began_rows : ℕ → Checkpoint → Option Reading → List (ℕ → LogRow)
began_rows night c None = []
began_rows night c (Some r) = began_row night c r ∷ []

abbrev pub left_rows : ℕ → ℕ → Text → Option Left → List (ℕ → LogRow)
left_rows night cycle why None = []
left_rows night cycle why (Some l) = left_row night cycle l why ∷ []

-- what is logged of a checkpoint that is put, with the words on the call that failed last
abbrev pub rows_on : ℕ → Option Reading → Standing → Checkpoint → Text → List (ℕ → LogRow)
rows_on night reading before c why = began_rows night c reading ++ left_rows night c.cursor.cycle why (newly_left before c)

-- why a branch was left out, if there are words on that
pub record IsReasonOn (l : Left) (why : Text) (r : Reason) : Type 0 where
  pub place : r.place ≡ l.place
  pub words : string_bytes r.words ≡ why

-- one more reason is kept, of a branch that is left out newly and of which there are words
abbrev pub KeepsReason : Option Left → Option Text → List Reason → List Reason → Type 0
KeepsReason None words old new = new ≡ old
KeepsReason (Some l) None old new = new ≡ old
KeepsReason (Some l) (Some why) old new = (r : Reason) × IsReasonOn l why r × (new ≡ old ++ r ∷ [])

-- what a night reads, by how it is called
pub record IsReadingOf (a : About) (r : Reading) : Type 0 where
  pub root : string_bytes r.root ≡ a.names.root.now
  pub part : r.part ≡ unwrap_or a.names.part 0
  pub program : string_bytes r.program ≡ a.program.now
