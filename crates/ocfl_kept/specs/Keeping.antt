-- What nights keep in a state folder, and what is read of that.
use Rattle.std.specs.Prelude.{◌≡◌, ◌<◌, ◌^◌, ℕ, Bool, Option, Some, None, IfSome, List, length, map, ⊤}
use Rattle.ocfl_tree.specs.Place.{Place, Text}
use Rattle.ocfl_cursor.specs.declared.ends.PartEnds.{PartEnds}
use Rattle.ocfl_state.specs.{Checkpoint.{Checkpoint, IsCheckpointText}, Pieces.{summary_of}}
use Rattle.ocfl_state.specs.declared.checkpoint_parts.{Left.{Left}, ReportMark.{ReportMark}}

-- a closed report: whether it is whole, by its name, and its bytes
pub record ClosedReport : Type 0 where
  pub whole : Bool
  pub bytes : Text

abbrev pub seen_report : Bool → Text → ClosedReport
seen_report whole bytes = record { whole = whole; bytes = bytes }

pub record Holding : Type 0 where
  -- the bytes of the checkpoint
  pub checkpoint : Option Text
  -- of each cycle, those of the checkpoint with which its report was closed, and the report
  pub kept : ℕ → Option Text
  pub reports : ℕ → Option ClosedReport

-- of a folder in which nothing is
abbrev pub holding_none : Holding
holding_none = record { checkpoint = None; kept = λ _. None; reports = λ _. None }

-- the bytes are those of this checkpoint, or of none
abbrev pub IsRead : Text → Option Checkpoint → Type 0
IsRead bytes None = (c : Checkpoint) → IsCheckpointText bytes c → ⊥
IsRead bytes (Some c) = IsCheckpointText bytes c

-- what was kept of a closing: nothing, or bytes, which may be no checkpoint any more
abbrev pub IsKept : Option Text → Option (Option Checkpoint) → Type 0
IsKept None found = found ≡ None
IsKept (Some bytes) None = ⊥
IsKept (Some bytes) (Some found) = IsRead bytes found

-- no report is longer than the system's files may be
abbrev pub IsShort : Option ClosedReport → Type 0
IsShort report = IfSome report (λ r. length r.bytes < 2 ^ 63)

-- a report has the length, the lines and the digests of a mark; one that is not there counts so
abbrev pub HasMark : ReportMark → Option ClosedReport → Type 0
HasMark mark report = IfSome report (λ r. mark ≡ summary_of r.bytes)

-- A report is as it was closed: it has the mark of the checkpoint with which it was. One without a
-- kept checkpoint counts so, and one whose checkpoint cannot be read does not.
abbrev pub IsAsClosed : Option Text → Option ClosedReport → Type 0
IsAsClosed None report = ⊤
IsAsClosed (Some bytes) report = (c : Checkpoint) × IsCheckpointText bytes c × HasMark c.report report

-- the ends of the part that a checkpoint is of, by its bytes: without a checkpoint there are none
abbrev pub AreEndsBy : Option Text → Option PartEnds → Type 0
AreEndsBy None ends = ⊥
AreEndsBy (Some bytes) ends = (c : Checkpoint) × IsCheckpointText bytes c × (ends ≡ c.part)

abbrev pub places_of : List Left → List Place
places_of left = map (λ l. l.place) left
