-- What a joining sees in the folder of all parts, by the calls of the system that it makes there.
use Rattle.std.specs.Prelude.{◌≡◌, ℕ, zero, suc, ◌+◌, ◌++◌, List, [], ◌∷◌, length, codes, Bool, true, false, Option, Some, None}
use Rattle.ocfl_tree.specs.Place.{Text}
use Rattle.ocfl_report.specs.Text.{escape}
use Rattle.ocfl_state.specs.Checkpoint.{Checkpoint, IsCheckpointText}
use Rattle.ocfl_kept.specs.{FilePaths.{report_path}, Lent.{lent}}
use Rattle.ocfl_messages.specs.{Closing.{joined_text}, declared.tally.Counts.{Counts}}
use Rattle.ocfl_joining.specs.Facts.{AreFacts, counted_with, known_runs, mark_at, none_counted}
use Rattle.ocfl_joining.specs.declared.facts.{Facts.{Facts}, FoundReport.{FoundReport}, RunCount.{RunCount}}
use Rattle.ocfl_join_disk.specs.Shown.{PartFiles, or_nothing}
use Rattle.ocfl_part_folders.specs.Counting.{counts_in}
use Rattle.ocfl_part_folders.specs.declared.calls.ClosedFile.{ClosedFile}

-- ---- paths

-- of the folder of the joined reports, and of the file in which one is made
abbrev pub reports_path : Text → Text
reports_path folder = folder ++ codes "/reports"

abbrev pub new_path : Text → ℕ → Text
new_path folder cycle = report_path folder cycle true ++ codes ".new"

-- ---- what is there

-- The path of the folder of all parts. Of each part, by its number: whether its folder is there, and the
-- bytes of its checkpoint. Of each cycle and part: the bytes of the closed report that has the name of a
-- whole one, and of one that is not; with what checkpoint it was closed; and whether the part has said
-- what it found. Of each cycle, whether a joined report, whole or not, is there compressed. Of which parts
-- closed reports were opened, in order, and what was said on standard error.
pub record PartsFolder : Type 0 where
  pub path : Text
  pub is_there : ℕ → Bool
  pub stored : ℕ → Option Text
  pub closed : ℕ → ℕ → Bool → Option Text
  pub kept : ℕ → ℕ → Option (Option Checkpoint)
  pub has_said : ℕ → ℕ → Bool
  pub packed : ℕ → Bool → Bool
  pub opened : List ℕ
  pub noted : Text

abbrev pub no_parts : PartsFolder
no_parts = record { path = []; is_there = λ _. false; stored = λ _. None; closed = λ _ _ _. None; kept = λ _ _. None; has_said = λ _ _. false; packed = λ _ _. false; opened = []; noted = [] }

abbrev pub with_opened : List ℕ → PartsFolder → PartsFolder
with_opened opened f = record { path = f.path; is_there = f.is_there; stored = f.stored; closed = f.closed; kept = f.kept; has_said = f.has_said; packed = f.packed; opened = opened; noted = f.noted }

-- one more closed report was opened
abbrev pub with_part : ℕ → PartsFolder → PartsFolder
with_part part f = with_opened (f.opened ++ part ∷ []) f

-- one more text was said
abbrev pub with_note : Text → PartsFolder → PartsFolder
with_note text f = record { path = f.path; is_there = f.is_there; stored = f.stored; closed = f.closed; kept = f.kept; has_said = f.has_said; packed = f.packed; opened = f.opened; noted = f.noted ++ text }

-- ---- closed reports

-- the one that is whole counts before the one that is not
abbrev pub first_of : Option Text → Option Text → Option Text
first_of None other = other
first_of (Some text) other = Some text

abbrev pub text_of : PartsFolder → ℕ → ℕ → Option Text
text_of f cycle part = first_of (f.closed cycle part true) (f.closed cycle part false)

abbrev pub found_by : Option Text → Option Text → Option (Option Checkpoint) → Option FoundReport
found_by (Some text) other kept = Some (record { whole = true; kept = kept })
found_by None (Some text) kept = Some (record { whole = false; kept = kept })
found_by None None kept = None

-- the closed report of a part that is there, with what was kept at its closing
abbrev pub found_in : PartsFolder → ℕ → ℕ → Option FoundReport
found_in f cycle part = found_by (f.closed cycle part true) (f.closed cycle part false) (f.kept cycle part)

-- It was opened, with what its reader is known to give, or none is there.
abbrev pub IsOpened : {R : Type 0} → (R → Option Text) → PartsFolder → ℕ → ℕ → Option (ClosedFile R) → Type 0
IsOpened known f cycle part None = text_of f cycle part ≡ None
IsOpened known f cycle part (Some c) = (known c.report ≡ text_of f cycle part) × ((text : Text) × (text_of f cycle part ≡ Some text × (c.bytes ≡ length text × (c.kept ≡ f.kept cycle part))))

-- ---- what the checkpoints of parts say

-- one that is there, in a folder that is there, says these facts
abbrev pub IsSaid : Bool → Option Text → Option Facts → Type 0
IsSaid false stored facts = facts ≡ None
IsSaid true None facts = facts ≡ None
IsSaid true (Some bytes) None = ⊥
IsSaid true (Some bytes) (Some facts) = (c : Checkpoint) × (IsCheckpointText bytes c × AreFacts c facts)

-- those of the first n parts, in their order
abbrev pub AreSaid : PartsFolder → ℕ → List (Option Facts) → Type 0
AreSaid f zero all = all ≡ []
AreSaid f (suc n) all = (before : List (Option Facts)) × ((last : Option Facts) × ((all ≡ before ++ last ∷ []) × (AreSaid f n before × IsSaid (f.is_there (n + 1)) (f.stored (n + 1)) last)))

-- ---- what a joining asks for

-- how many runs the first n parts had in a cycle, by what was kept of each
abbrev pub runs_of : (ℕ → Option (Option Checkpoint)) → ℕ → ℕ → RunCount
runs_of kept cycle zero = none_counted
runs_of kept cycle (suc n) = counted_with (runs_of kept cycle n) cycle (kept (n + 1))

-- The word on a joined report of so many parts that has these counts.
abbrev pub word_of : PartsFolder → ℕ → ℕ → Bool → Counts → Text
word_of f parts cycle whole counts = joined_text (record { cycle = cycle; whole = whole; report = lent (report_path f.path cycle whole); counts = counts; runs = known_runs (runs_of (f.kept cycle) cycle parts) })

-- by the facts of the parts
abbrev pub files_in : List (Option Facts) → PartsFolder → PartFiles
files_in facts f = record {
  folders = record {
    bytes = λ cycle part. or_nothing (text_of f cycle part);
    marks = λ cycle part. mark_at facts part cycle (length (or_nothing (text_of f cycle part))) (f.kept cycle part);
    found = found_in f;
    has_said = f.has_said;
    packed = f.packed;
    word = λ cycle whole bytes. word_of f (length facts) cycle whole (counts_in bytes);
    path = λ cycle whole. escape (report_path f.path cycle whole);
    noted = f.noted;
  };
  opened = f.opened;
}
