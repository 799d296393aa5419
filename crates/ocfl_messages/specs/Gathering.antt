-- The findings of a report by objects, as its lines come.
use Rattle.std.specs.{Prelude.{◌≡◌, ◌++◌, All, List, Bool, Option, map, true}, List.{filter}}
use Rattle.ocfl_tree.specs.Place.{Place}
use Rattle.ocfl_report.specs.Line.{Line}
use Rattle.ocfl_messages.specs.{Finding.{Finding, Section, filled, found_in, is_within, lines_within}, Gravest.{IsOf}, Tally.{IsCount, IsPlaces, is_right, is_wrong, places_of, right_in}}
use Rattle.ocfl_messages.specs.declared.{finding.FileCounts.{FileCounts}, gathering.Gathering.{Gathering}}

abbrev pub said : (Line → Bool) → List Finding → List Finding
said is_said fs = filter (λ f. is_said f.line) fs

-- kept are those to be said of these findings, whose files are all counted, and of the section behind
-- them, with what its lines count
pub record IsGathered (is_said : Line → Bool) (g : Gathering) (fs : List Finding) (s : Section) : Type 0 where
  pub are_counted : (c : FileCounts) → map (filled c) fs ≡ fs
  pub found : IsOf g.found (said is_said (fs ++ map (found_in s.head) s.lines))
  pub head : g.heads.last ≡ s.head
  pub begun : g.is_begun ≡ s.is_begun
  pub right : IsCount g.right (right_in (lines_within s.head s.lines))
  pub wrong : IsPlaces g.wrong (places_of is_wrong (lines_within s.head s.lines))

-- files of the object with this head that are right
pub record AreRightIn (head : Option Place) (ls : List Line) : Type 0 where
  pub right : All (λ l. is_right l ≡ true) ls
  pub within : All (λ l. is_within head l.place ≡ true) ls

-- the section with these lines too, which are no heads
abbrev pub section_on : Section → List Line → Section
section_on s ls = record { head = s.head; lines = s.lines ++ ls; is_begun = s.is_begun }
