-- The files of closed cycles in a state folder, and what is seen of each cycle.
use Rattle.std.specs.Prelude.{◌≡◌, ◌==◌, ◌&&◌, ◌||◌, ℕ, List, [], ◌∷◌, Bool, true, false, not, map, Option, Some, None}
use Rattle.ocfl_tree.specs.Place.{Text, Place, text_eq}
use Rattle.ocfl_state.specs.{Checkpoint.{Checkpoint, IsCheckpointText}, Pieces.{summary_of}}
use Rattle.ocfl_state.specs.declared.checkpoint_parts.ReportMark.{ReportMark}
use Rattle.ocfl_accounts.specs.{Cycle.{Sight, there, away}, Kept.{Kept, no_lists}}

pub record Files : Type 0 where
  -- the bytes of the closed report of a cycle, under the name of a whole one and under that of one
  -- that is not
  pub whole : ℕ → Option Text
  pub incomplete : ℕ → Option Text
  -- the report of a cycle that is not whole is there compressed
  pub packed : ℕ → Bool
  -- the bytes of the checkpoint with which the report of a cycle was closed, and the checkpoint that
  -- these are
  pub kept : ℕ → Option Text
  pub checkpoint : ℕ → Option Checkpoint
  -- the objects that must be there, if they are listed
  pub listed : Option (List Place)
  -- the list of what is gone at the end of a cycle
  pub lists : ℕ → Option Text

-- the bytes are those of this checkpoint, or of none
abbrev pub IsRead : Option Text → Option Checkpoint → Type 0
IsRead None found = found ≡ None
IsRead (Some bytes) None = (c : Checkpoint) → IsCheckpointText bytes c → ⊥
IsRead (Some bytes) (Some c) = IsCheckpointText bytes c

abbrev pub AreRead : Files → Type 0
AreRead f = (cycle : ℕ) → IsRead (f.kept cycle) (f.checkpoint cycle)

abbrev pub report_named : Files → Bool → ℕ → Option Text
report_named f true cycle = f.whole cycle
report_named f false cycle = f.incomplete cycle

-- ---- what is seen of a cycle

abbrev pub left_by : Option Checkpoint → List Place
left_by None = []
left_by (Some c) = map (λ l. l.place) c.left

abbrev pub leaves_none : Checkpoint → Bool
leaves_none c = none c.left
  where
    none : {A : Type 0} → List A → Bool
    none [] = true
    none (x ∷ xs) = false

abbrev pub is_mark : ReportMark → ReportMark → Bool
is_mark m n = (m.bytes == n.bytes) && ((m.lines == n.lines) && (text_eq m.pieces n.pieces && text_eq m.tail n.tail))

-- it has the length, the lines and the digests that the checkpoint has of it
abbrev pub is_as_closed : Checkpoint → Text → Bool
is_as_closed c report = is_mark c.report (summary_of report)

-- Lines of a report that is not whole were lost, or may have been: only a checkpoint may say that
-- nothing is missing but what was left out, of a report that is as it was closed.
abbrev pub is_lost : Option Checkpoint → Text → Bool
is_lost None report = true
is_lost (Some c) report = not (c.whole && (not (leaves_none c) && is_as_closed c report))

-- nothing of it was lost or left out, as far as is known
abbrev pub had_all : Option Checkpoint → Bool
had_all None = true
had_all (Some c) = c.whole && leaves_none c

abbrev pub had_lost : Option Checkpoint → Bool
had_lost None = false
had_lost (Some c) = not c.whole

-- Of a report that is not there: one that is compressed under the name of one that is not whole,
-- though its checkpoint had all of it, lost lines.
abbrev pub away_by : Option Checkpoint → Bool → Sight
away_by kept packed = away (had_all kept && not packed) (had_lost kept || (had_all kept && packed))

abbrev pub whole_by : ℕ → Option Checkpoint → Sight
whole_by cycle kept = there (record { cycle = cycle; whole = true; lost = false; left = left_by kept })

abbrev pub incomplete_by : ℕ → Option Checkpoint → Text → Sight
incomplete_by cycle kept report = there (record { cycle = cycle; whole = false; lost = is_lost kept report; left = left_by kept })

abbrev pub sight_by : ℕ → Option Checkpoint → Bool → Option Text → Option Text → Sight
sight_by cycle kept packed (Some report) incomplete = whole_by cycle kept
sight_by cycle kept packed None (Some report) = incomplete_by cycle kept report
sight_by cycle kept packed None None = away_by kept packed

-- a report is whole by its name, and the whole one counts
abbrev pub sight_of : Files → ℕ → Sight
sight_of f cycle = sight_by cycle (f.checkpoint cycle) (f.packed cycle) (f.whole cycle) (f.incomplete cycle)

abbrev pub bytes_by : Option Text → Option Text → Text
bytes_by (Some report) incomplete = report
bytes_by None (Some report) = report
bytes_by None None = []

-- what is kept of closed cycles in such files
abbrev pub kept_of : Files → Kept
kept_of f = record {
  sights = sight_of f;
  reports = λ cycle. bytes_by (f.whole cycle) (f.incomplete cycle);
  listed = f.listed;
  lists = f.lists;
}

-- no file is there
abbrev pub no_files : Files
no_files = record {
  whole = λ _. None;
  incomplete = λ _. None;
  packed = λ _. false;
  kept = λ _. None;
  checkpoint = λ _. None;
  listed = None;
  lists = no_lists;
}
