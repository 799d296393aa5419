-- Findings, with the objects that they are in.
use Rattle.std.specs.{Prelude.{◌&&◌, ◌+◌, List, [], ◌∷◌, ◌++◌, Bool, true, false, not, Option, Some, None, IfSome, map, if◌then◌else◌}, List.{filter}}
use Rattle.ocfl_tree.specs.{Name.{IsPlace}, Place.{Place, begins}}
use Rattle.ocfl_report.specs.Line.{Line, line_of}
use Rattle.ocfl_codes.specs.Kinds.{tells_object}
use Rattle.ocfl_messages.specs.Tally.{is_last, kept_count, right_in, wrong_in}
use Rattle.ocfl_messages.specs.declared.{finding.Finding.{Finding as MadeFinding}, finding.FileCounts.{FileCounts}}

-- a line of a report, the object that it is in, if that is known, and how many files of that are
-- right, once they are counted
pub record Finding : Type 0 where
  pub line : Line
  pub object : Option Place
  pub files : Option FileCounts

abbrev pub finding_of : MadeFinding → Finding
finding_of f = record { line = line_of f.line; object = f.object; files = f.files }

-- the object whose head came last, with this line
abbrev pub head_with : Option Place → Line → Option Place
head_with head l = if tells_object l then Some l.place else head

-- and after these lines
abbrev pub head_after : Option Place → List Line → Option Place
head_after head [] = head
head_after head (l ∷ ls) = head_after (head_with head l) ls

-- the object with this head, if the place is there or below it
abbrev pub object_at : Option Place → Place → Option Place
object_at None p = None
object_at (Some o) p = if begins o p then Some o else None

-- ---- how many files of it are right

-- those of an object are counted once all of its lines came
abbrev pub counts_or : Option FileCounts → FileCounts → FileCounts
counts_or None c = c
counts_or (Some d) c = d

abbrev pub filled : FileCounts → Finding → Finding
filled c f = record { line = f.line; object = f.object; files = Some (counts_or f.files c) }

-- a line in the object with this head, whose files are not counted yet
abbrev pub found_in : Option Place → Line → Finding
found_in head l = record { line = l; object = object_at head l.place; files = None }

-- the lines of an object that came: its head and what is behind it, or only what is behind it if its
-- head came before them
pub record Section : Type 0 where
  pub head : Option Place
  pub lines : List Line
  pub is_begun : Bool

-- a line of another object's head
abbrev pub is_other : Option Place → Line → Bool
is_other head l = tells_object l && not (is_last head l.place)

-- the section that a line comes into, and this with it
abbrev pub section_at : Section → Line → Section
section_at s l = if is_other s.head l then record { head = Some l.place; lines = []; is_begun = true } else s

abbrev pub section_with : Section → Line → Section
section_with s l = record { head = (section_at s l).head; lines = (section_at s l).lines ++ l ∷ []; is_begun = (section_at s l).is_begun }

-- before all lines, but behind this head
abbrev pub first_section : Option Place → Section
first_section head = record { head = head; lines = []; is_begun = false }

abbrev pub section_after : Section → List Line → Section
section_after s [] = s
section_after s (l ∷ ls) = section_after (section_with s l) ls

-- the place is the object with this head, or below it
abbrev pub is_within : Option Place → Place → Bool
is_within None p = false
is_within (Some o) p = begins o p

abbrev pub lines_within : Option Place → List Line → List Line
lines_within head ls = filter (λ l. is_within head l.place) ls

-- how many files of its object are right, of how many; these are all, if all of its lines came
abbrev pub counts_in : Bool → Section → FileCounts
counts_in is_over s = record {
  right = kept_count (right_in (lines_within s.head s.lines));
  files = kept_count (right_in (lines_within s.head s.lines) + wrong_in (lines_within s.head s.lines));
  is_whole = is_over && s.is_begun;
}

abbrev pub counted : Bool → Section → List Finding
counted is_over s = map (filled (counts_in is_over s)) (map (found_in s.head) s.lines)

-- those of the sections that end among these lines
abbrev pub ended_with : Section → Line → List Finding
ended_with s l = if is_other s.head l then counted true s else []

abbrev pub ended_after : Section → List Line → List Finding
ended_after s [] = []
ended_after s (l ∷ ls) = ended_with s l ++ ended_after (section_with s l) ls

-- lines that come behind a head, each in the object whose head came last, with how many files of it
-- are right; behind them that object may go on, unless the report is over
abbrev pub placed_after : Bool → Option Place → List Line → List Finding
placed_after is_over head ls = ended_after (first_section head) ls ++ counted is_over (section_after (first_section head) ls)

-- of places that a store can have
pub record IsPlaced (f : Finding) : Type 0 where
  pub place : IsPlace f.line.place
  pub object : IfSome f.object IsPlace
