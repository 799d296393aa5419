-- What a taker of changes sees: lines of two reports, and the changes between them.
use Rattle.std.specs.Prelude.{List, [], ◌∷◌, ◌++◌, map, flat_map}
use Rattle.ocfl_tree.specs.Place.{Place}
use Rattle.ocfl_report.specs.Line.{Line}
use Rattle.ocfl_compare.specs.Changes.{change_at, lines_at, places_of, said_at}
use Rattle.ocfl_compare.specs.declared.change.{Change.{Change}, ChangeAt.{ChangeAt}}
use Rattle.ocfl_compare.specs.declared.question.Question.{Question}
use Rattle.ocfl_compare.specs.declared.question.Question.TheVariants.{Changed, Expected}
use Rattle.ocfl_compare.specs.declared.side.Side.{Side}
use Rattle.ocfl_compare.specs.declared.side.Side.TheVariants.{Before, Now}

pub data Seen : Type 0 where
  line : Side → Line → Seen
  change : ChangeAt → Seen

-- the changes among these
abbrev pub change_in : Seen → List ChangeAt
change_in (line side l) = []
change_in (change c) = c ∷ []

abbrev pub changes_in : List Seen → List ChangeAt
changes_in seen = flat_map change_in seen

abbrev pub changes_seen : List ChangeAt → List Seen
changes_seen cs = map change cs

-- the changes of a place
abbrev pub show_at : Place → Change → Seen
show_at p c = change (change_at p c)

abbrev pub shown : Place → List Change → List Seen
shown p cs = map (show_at p) cs

-- the lines of a report are seen where it is asked what changed since another one
abbrev pub line_seen : Question → Side → Line → List Seen
line_seen Changed side l = line side l ∷ []
line_seen Expected side l = []

abbrev pub lines_seen : Question → Side → List Line → List Seen
lines_seen asked side ls = flat_map (line_seen asked side) ls

-- of a place the lines of the report before, those of this one, and then what is said of it
abbrev pub seen_at : Question → List Place → List Line → List Line → Place → List Seen
seen_at asked left before now p =
    lines_seen asked Before (lines_at p before) ++ (lines_seen asked Now (lines_at p now) ++ shown p (said_at asked left before now p))

-- all of it, in the order of places
abbrev pub all_seen : Question → List Place → List Line → List Line → List Seen
all_seen asked left before now = flat_map (seen_at asked left before now) (places_of before now)
