-- What comparing two reports does.
use Rattle.std.specs.Prelude.{◌≡◌, List}
use Rattle.ocfl_tree.specs.Place.{Text, Place}
use Rattle.ocfl_report.specs.{Line.{Line}, Text.{lines_text}}
use Rattle.ocfl_separators.specs.Splits.{AreLines}
use Rattle.ocfl_compare.specs.declared.question.Question.{Question}
use Rattle.ocfl_compare.specs.declared.question.Question.TheVariants.{Changed}
use Rattle.ocfl_compare.specs.Seen.{Seen, all_seen}

-- the bytes are those of a report with these lines
pub record IsReport (b : Text) (ls : List Line) : Type 0 where
  pub are : AreLines ls
  pub is : b ≡ lines_text ls

-- the bytes before and these are those of two reports, and just what was asked of them was taken, after
-- each line of the place was seen
pub record IsAnswered (asked : Question) (left : List Place) (b n : Text) (Taken : List Seen → Type 0) : Type 0 where
  pub before : List Line
  pub now : List Line
  pub is_before : IsReport b before
  pub is_now : IsReport n now
  pub taken : Taken (all_seen asked left before now)

-- just what changed was taken
abbrev pub IsCompared : List Place → Text → Text → (List Seen → Type 0) → Type 0
IsCompared = IsAnswered Changed
