-- What is shown of a stored cursor, of a whole root or of one part, and why nothing is.
use Rattle.std.specs.Prelude.{◌≡◌, ◌⊎◌, true, false, Option, IfSome, ⊤}
use Rattle.ocfl_tree.specs.Place.{Text}
use Rattle.ocfl_cursor.specs.{Cursor.{Cursor, cursor_lines}, Part.{part_lines, IsPartText}}
use Rattle.ocfl_cursor.specs.{PartRefusal.{AnyPartRefusedRightly}, Refusal.{IsTextOf, RefusedRightly}}
use Rattle.ocfl_cursor.specs.{Stop.{is_read_as_part}, declared.ends.PartEnds.{PartEnds}}
use Rattle.ocfl_cursor.specs.declared.showing.ShowStop.{ShowStop}
use Rattle.ocfl_cursor.specs.declared.reading.CursorStop.TheVariants as stop
use Rattle.ocfl_cursor.specs.declared.refused.Refused.TheVariants as refused
use Rattle.ocfl_cursor.specs.declared.showing.ShowStop.TheVariants as show

-- ---- the lines of a cursor

-- the bytes are the text of a whole root's cursor, and these are its lines
pub record AreWholeLines (b lines : Text) : Type 0 where
  pub cursor : Cursor
  pub is_text : IsTextOf b cursor
  pub lines_are : lines ≡ cursor_lines cursor

-- the bytes are the text of a part's cursor, and these are its lines
pub record ArePartLines (b lines : Text) : Type 0 where
  pub ends : PartEnds
  pub cursor : Cursor
  pub is_text : IsPartText ends b cursor
  pub is_read : is_read_as_part b ≡ true
  pub lines_are : lines ≡ part_lines ends cursor

abbrev pub AreShown : Text → Text → Type 0
AreShown b lines = AreWholeLines b lines ⊎ ArePartLines b lines

-- the lines of the text that a reader gave; if its bytes are known, they are that text
pub record IsShownFrom (known : Option Text) (lines : Text) : Type 0 where
  pub bytes : Text
  pub are : AreShown bytes lines
  pub stored : IfSome known (λ b. b ≡ bytes)

-- ---- why nothing is shown

-- by the kind that the first line names, the bytes are rightly refused, unless the reader failed or
-- memory was refused
abbrev pub UnshownRightly : Text → ShowStop → Type 0
UnshownRightly b (show.Whole stop.Read) = ⊤
UnshownRightly b (show.Whole (stop.Refused refused.Memory)) = ⊤
UnshownRightly b (show.Whole (stop.Refused why)) = (is_read_as_part b ≡ false) × RefusedRightly b why
UnshownRightly b (show.Part why) = (is_read_as_part b ≡ true) × AnyPartRefusedRightly b why

-- the reader failed, or memory was refused
abbrev pub IsOfNoBytes : ShowStop → Type 0
IsOfNoBytes why = (why ≡ show.Whole stop.Read) ⊎ ((why ≡ show.Whole (stop.Refused refused.Memory)) ⊎ (why ≡ show.Part refused.Memory))
