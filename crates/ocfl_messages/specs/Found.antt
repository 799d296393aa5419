-- The findings among the bytes of a report that come piece by piece.
use Rattle.std.specs.Prelude.{◌≡◌, ◌≢◌, List, [], ◌∷◌, ◌++◌, All, Bool, None, Option}
use Rattle.ocfl_tree.specs.Place.{Place, Text}
use Rattle.ocfl_report.specs.{Line.{Line}, Text.{IsLine, IsLineText, lines_text}}
use Rattle.ocfl_messages.specs.{Finding.{ended_after, first_section, head_after, placed_after, section_after}, Gathering.{IsGathered}}
use Rattle.ocfl_messages.specs.{Gravest.{IsOf}, Known.{is_unknown, unknown}}
use Rattle.ocfl_messages.specs.declared.{finding.Heads.{Heads}, gravest.Gravest.{Gravest}}
use Rattle.ocfl_messages.specs.{declared.found.Found.{Found}, declared.known.KnownEntry.{KnownEntry}}

-- after these bytes, before which the object with this head came: their whole lines are taken but for
-- those that are known, and what follows the last line feed is kept
pub record IsAfter (known : List KnownEntry) (head : Option Place) (f : Found) (b : Text) : Type 0 where
  pub lines : List Line
  pub are : All IsLine lines
  pub is : b ≡ lines_text lines ++ f.rest.items
  pub unended : All (λ c. c ≢ 10) f.rest.items
  pub gathered : IsGathered (is_unknown known) f.gathering (ended_after (first_section head) lines) (section_after (first_section head) lines)

-- the bytes are the text of these lines, the findings are kept of them that are not known, and the
-- object whose head came last; the report may be over with them
pub record AreAll (known : List KnownEntry) (is_over : Bool) (head : Option Place) (g : Gravest) (behind : Heads) (b : Text) : Type 0 where
  pub lines : List Line
  pub are : All IsLine lines
  pub is : b ≡ lines_text lines
  pub gravest : IsOf g (unknown known (placed_after is_over head lines))
  pub heads : behind.last ≡ head_after head lines

-- the object whose head is the last one among the whole lines of these bytes
pub record IsHeadIn (behind : Heads) (b : Text) : Type 0 where
  pub lines : List Line
  pub rest : Text
  pub are : All IsLine lines
  pub is : b ≡ lines_text lines ++ rest
  pub unended : All (λ c. c ≢ 10) rest
  pub heads : behind.last ≡ head_after None lines

-- after some lines of a report, the bytes go on with a line that is none of a report
pub record HasBadLine (b : Text) : Type 0 where
  pub before : List Line
  pub bad : Text
  pub after : Text
  pub are : All IsLine before
  pub is : b ≡ lines_text before ++ (bad ++ 10 ∷ []) ++ after
  pub one : All (λ c. c ≢ 10) bad
  pub refused : (l : Line) → IsLineText (bad ++ 10 ∷ []) l → ⊥
