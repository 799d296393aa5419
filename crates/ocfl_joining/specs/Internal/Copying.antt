-- How far a report is copied.
use Rattle.std.specs.Prelude.{◌≡◌, ℕ, ◌+◌, List, [], ◌∷◌, ◌++◌, length, All, flat_map, Option, Some, None}
use Rattle.ocfl_tree.specs.Place.{Text, Place}
use Rattle.ocfl_report.specs.{Line.{Line}, Text.{lines_text, IsLineText}}
use Rattle.ocfl_separators.specs.Splits.{AreLines, IsNotLess}
use Rattle.ocfl_state.specs.Pieces.{Carries}
use Rattle.ocfl_joining.specs.{Missing.{numbers}, Reports.{Seen}, Joined.{IsFrom, IsBelow, IsRight}}
use Rattle.ocfl_joining.specs.declared.copying.Copied.{Copied}

-- a line at this place may follow, within these ends
pub record IsFitPlace (from below last : Option Place) (p : Place) : Type 0 where
  pub order : IsNotLess last p
  pub from_is : IsFrom from p
  pub below_is : IsBelow below p

-- the text is that of this line, which may follow, within these ends
pub record IsFitLine (from below last : Option Place) (text : Text) (line : Line) : Type 0 where
  pub is : IsLineText text line
  pub at : IsFitPlace from below last line.place

-- the text is that of a line at this place
pub record IsFit (from below last : Option Place) (text : Text) (p : Place) : Type 0 where
  pub line : Line
  pub fits : IsFitLine from below last text line
  pub place : p ≡ line.place

-- the place of the last line
abbrev pub last_of : Option Place → List Line → Option Place
last_of last [] = last
last_of last (l ∷ ls) = last_of (Some l.place) ls

-- these lines were copied
pub record HasCopied (from below : Option Place) (lines : List Line) (copied : Copied) : Type 0 where
  pub are : AreLines lines
  pub within : All (λ l. IsFrom from l.place × IsBelow below l.place) lines
  pub last : copied.last ≡ last_of None lines
  pub count : copied.count ≡ length (lines_text lines)
  pub digests : Carries copied.digests (lines_text lines)

-- one more text was copied, that of a fit line
pub record CopiesLine (from below : Option Place) (text : Text) (old new : Copied) : Type 0 where
  pub place : Place
  pub fit : IsFit from below old.last text place
  pub last : new.last ≡ Some place
  pub count : new.count ≡ old.count + length text
  pub digests : (report : Text) → Carries old.digests report → old.count ≡ length report → Carries new.digests (report ++ text)

-- of an open report lines were read and given
pub record AreGiven (lines : List Line) (old new : Seen) : Type 0 where
  pub read : old.left ≡ lines_text lines ++ new.left
  pub rest : new ≡ record { bytes = old.bytes; marks = old.marks; word = old.word; opened = old.opened; left = new.left; made = old.made ++ lines_text lines; put = old.put; rest = old.rest }

-- all lines of an open report were copied
pub record AreCopied (from below : Option Place) (old new : Seen) (copied : Copied) : Type 0 where
  pub lines : List Line
  pub given : AreGiven lines old new
  pub all : new.left ≡ []
  pub copied_are : HasCopied from below lines copied

-- the report of a part was opened and given, and nothing else
pub record IsCopy (number : ℕ) (old new : Seen) : Type 0 where
  pub bytes : new.bytes ≡ old.bytes
  pub marks : new.marks ≡ old.marks
  pub word : new.word ≡ old.word
  pub opened : new.opened ≡ old.opened ++ number ∷ []
  pub made : new.made ≡ old.made ++ old.bytes number
  pub put : new.put ≡ old.put

-- the reports of so many parts were opened and given, one after the other, and each is right
pub record AreAllCopied (separators : List Place) (count : ℕ) (old new : Seen) : Type 0 where
  pub bytes : new.bytes ≡ old.bytes
  pub marks : new.marks ≡ old.marks
  pub word : new.word ≡ old.word
  pub opened : new.opened ≡ old.opened ++ numbers count
  pub made : new.made ≡ old.made ++ flat_map old.bytes (numbers count)
  pub put : new.put ≡ old.put
  pub right : All (IsRight separators old) (numbers count)
