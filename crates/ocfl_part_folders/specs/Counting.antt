-- What the lines of a report count, as they are read.
use Rattle.std.specs.Prelude.{◌≡◌, ◌≢◌, ◌+◌, ◌++◌, ℕ, zero, suc, List, [], ◌∷◌, Option, Some, None, true, codes, drop, flat_map, length, nat_eq}
use Rattle.std.specs.{Io.BufRead.{take_through}, List.{starts_with}, Option.{option_to_list}}
use Rattle.ocfl_tree.specs.Place.{Text}
use Rattle.ocfl_report.specs.{Line.{Line}, Text.{IsLineText}}
use Rattle.ocfl_messages.specs.Tally.{IsCount, bytes_in, kept_count, objects_in, right_in, wrong_in}
use Rattle.ocfl_messages.specs.declared.tally.Counts.{Counts}
use Rattle.ocfl_part_folders.specs.Reading.{line_in}

-- how the line of a right file or object begins
abbrev pub clean : Text
clean = codes "ok\t"

-- A text counts as the line that it is of, and as nothing if it begins as one that finds nothing and is
-- none. No other text counts.
abbrev pub CountsAs : Text → Option Line → Type 0
CountsAs text None = (starts_with nat_eq text clean ≡ true) × ((l : Line) → IsLineText text l → ⊥)
CountsAs text (Some l) = IsLineText text l

-- the first line of a text, with its line feed or to the end, is not empty and counts so
pub record CountsFirst (bytes rest : Text) (line : Option Line) : Type 0 where
  pub is : bytes ≡ take_through 10 bytes ++ rest
  pub some : take_through 10 bytes ≢ []
  pub counts : CountsAs (take_through 10 bytes) line

-- all lines of a report, one after the other, count so
abbrev pub CountAs : Text → List (Option Line) → Type 0
CountAs bytes [] = bytes ≡ []
CountAs bytes (line ∷ lines) = (rest : Text) × (CountsFirst bytes rest line × CountAs rest lines)

-- those that are lines
abbrev pub lines_of : List (Option Line) → List Line
lines_of lines = flat_map option_to_list lines

-- what the lines of a report count: each number is one that fits, or the greatest that does
pub record HasCounts (bytes : Text) (counts : Counts) : Type 0 where
  pub lines : List (Option Line)
  pub count : CountAs bytes lines
  pub right : IsCount counts.right (right_in (lines_of lines))
  pub files : IsCount counts.files (right_in (lines_of lines) + wrong_in (lines_of lines))
  pub objects : IsCount counts.objects (objects_in (lines_of lines))
  pub bytes_are : IsCount counts.bytes (bytes_in (lines_of lines))

-- ---- the same, as it is read

-- the lines of so many bytes at most
abbrev pub lines_in : ℕ → Text → List (Option Line)
lines_in zero bytes = []
lines_in (suc n) [] = []
lines_in (suc n) (b ∷ bytes) = line_in (take_through 10 (b ∷ bytes)) ∷ lines_in n (drop (length (take_through 10 (b ∷ bytes))) (b ∷ bytes))

abbrev pub counts_of : List Line → Counts
counts_of ls = record { right = kept_count (right_in ls); files = kept_count (right_in ls + wrong_in ls); objects = kept_count (objects_in ls); bytes = kept_count (bytes_in ls) }

-- What the lines of a report count. Of one whose lines count otherwise than `CountAs` says, this says
-- nothing.
unfoldable pub counts_in : Text → Counts
counts_in bytes = counts_of (lines_of (lines_in (length bytes) bytes))
