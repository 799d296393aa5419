-- The lines of a report while it is compared, with those that are to be said.
use Rattle.std.specs.Prelude.{◌≡◌, ◌&&◌, ◌+◌, ℕ, List, [], ◌∷◌, ◌++◌, All, Bool, true, false, not, None, length, map, if◌then◌else◌}
use Rattle.ocfl_tree.specs.Place.{Place, place_eq}
use Rattle.ocfl_report.specs.Line.{Line, is_finding_code, line_of}
use Rattle.ocfl_compare.specs.Seen.{Seen, change, line}
use Rattle.ocfl_compare.specs.declared.side.Side.{Side}
use Rattle.ocfl_compare.specs.declared.side.Side.TheVariants.{Before, Now}
use Rattle.ocfl_messages.specs.{Finding.{ended_after, first_section, placed_after, section_after}, Gathering.{IsGathered, said}, Gravest.{IsOf}, Tally.{IsCount, IsTally}}
use Rattle.ocfl_messages.specs.declared.{gravest.Gravest.{Gravest}, known.KnownEntry.{KnownEntry}}
use Rattle.ocfl_words.specs.{Kept.{Kept, kept_seen}, News.{again_in, findings_in, is_same_line, new_line, unsaid_in}, Noted.{Noted, noted_in}}
use Rattle.ocfl_words.specs.declared.{compared.ComparedLines.{ComparedLines}, findings.Findings.{Findings}, marked.{MarkedLines.{MarkedLines}, Waiting.{Waiting}}}

-- ---- lines, and whether each is to be said

pub record Marked : Type 0 where
  pub line : Line
  pub is_said : Bool

abbrev pub unmarked : Line → Marked
unmarked l = record { line = l; is_said = false }

abbrev pub lines_of : List Marked → List Line
lines_of ms = map (λ m. m.line) ms

-- just these are to be said
abbrev pub Agrees : (Line → Bool) → Marked → Type 0
Agrees says m = says m.line ≡ m.is_said

-- Which of the findings of a place are new, its changes tell, which come after its lines. From its
-- first finding on these wait for that.
pub record Marks : Type 0 where
  pub settled : List Marked
  pub waiting : List Marked

abbrev pub no_marks : Marks
no_marks = record { settled = []; waiting = [] }

abbrev pub all_of : Marks → List Marked
all_of m = m.settled ++ m.waiting

abbrev pub lines_in : Marks → List Line
lines_in m = lines_of (all_of m)

-- ---- one line more

abbrev pub waits_at : List Marked → Place → Bool
waits_at [] p = false
waits_at (m ∷ ms) p = place_eq m.line.place p

abbrev pub settled : Marks → Marks
settled m = record { settled = all_of m; waiting = [] }

abbrev pub is_nil : List Marked → Bool
is_nil [] = true
is_nil (m ∷ ms) = false

abbrev pub put_line : Marks → Line → Marks
put_line m l =
    if is_nil m.waiting && not (is_finding_code l.code)
    then record { settled = m.settled ++ unmarked l ∷ []; waiting = m.waiting }
    else record { settled = m.settled; waiting = m.waiting ++ unmarked l ∷ [] }

abbrev pub marks_with : Marks → Line → Marks
marks_with m l = put_line (if waits_at m.waiting l.place then m else settled m) l

-- ---- a finding that is new

abbrev pub marked_by : Line → Marked → Marked
marked_by l m = record { line = m.line; is_said = if is_same_line m.line l then true else m.is_said }

abbrev pub marks_named : Marks → Line → Marks
marks_named m l = record { settled = m.settled; waiting = map (marked_by l) m.waiting }

abbrev pub marks_of_all : Marks → List Line → Marks
marks_of_all m [] = m
marks_of_all m (l ∷ ls) = marks_of_all (marks_named m l) ls

-- ---- with how many that are new were said before

pub record Held : Type 0 where
  pub marks : Marks
  pub again : ℕ

abbrev pub none_held : Held
none_held = record { marks = no_marks; again = 0 }

abbrev pub held_with : Held → Line → Held
held_with h l = record { marks = marks_with h.marks l; again = h.again }

abbrev pub held_seen : Held → Side → Line → Held
held_seen h Before l = h
held_seen h Now l = held_with h l

abbrev pub held_new : List Line → Held → List Line → Held
held_new before h ls = record { marks = marks_of_all h.marks (unsaid_in before ls); again = h.again + length (again_in before ls) }

abbrev pub held_noted : List Line → Held → Noted → Held
held_noted before h n = held_new before h (new_line n)

-- while lines are seen and changes taken, which are noted by the lines that were seen before
abbrev pub held_after : List KnownEntry → List Line → Kept → Held → List Seen → Held
held_after known before k h [] = h
held_after known before k h (line side l ∷ seen) = held_after known before (kept_seen k side l) (held_seen h side l) seen
held_after known before k h (change c ∷ seen) = held_after known before k (held_noted before h (noted_in known k.before k.now c)) seen

-- ---- as they are kept

abbrev pub marked_of : Waiting → Marked
marked_of w = record { line = line_of w.line; is_said = w.is_said }

-- the settled lines are gathered, whichever of them are to be said
pub record AreMarked (c : MarkedLines) (m : Marks) : Type 0 where
  pub waiting : map marked_of c.waiting.items ≡ m.waiting
  pub gathered : (says : Line → Bool) → All (Agrees says) m.settled
      → IsGathered says c.gathering (ended_after (first_section None) (lines_of m.settled)) (section_after (first_section None) (lines_of m.settled))

pub record AreHeld (c : ComparedLines) (h : Held) : Type 0 where
  pub marks : AreMarked c.lines h.marks
  pub tally : IsTally c.tally (lines_in h.marks)
  pub count : IsCount c.count (findings_in (lines_in h.marks))
  pub again : IsCount c.again h.again

-- the most serious findings among all of them
abbrev pub IsOfMarked : Gravest → List Marked → Type 0
IsOfMarked g ms = (says : Line → Bool) → All (Agrees says) ms → IsOf g (said says (placed_after true None (lines_of ms)))

pub record HasFound (f : Findings) (h : Held) : Type 0 where
  pub gravest : IsOfMarked f.gravest (all_of h.marks)
  pub again : IsCount f.said h.again
  pub count : IsCount f.count (findings_in (lines_in h.marks))
  pub tally : IsTally f.tally (lines_in h.marks)
