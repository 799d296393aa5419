-- The lines of a stored cursor between its first line and its last, of a whole root or of one part.
use Rattle.std.specs.Prelude.{◌≡◌, Option, Some, None, IfSome}
use Rattle.ocfl_tree.specs.Place.{Text}
use Rattle.ocfl_cursor.specs.{Cursor.{Cursor, IsCursor, cursor_lines}, Part.{AreEnds, part_lines}}
use Rattle.ocfl_cursor.specs.declared.ends.PartEnds.{PartEnds}

-- those of a part's cursor begin with the lines of the part's ends
abbrev pub stored_lines : Option PartEnds → Cursor → Text
stored_lines None c = cursor_lines c
stored_lines (Some e) c = part_lines e c

-- these are the lines of a cursor, of this part if there is one
pub record AreStoredLines (part : Option PartEnds) (lines : Text) (c : Cursor) : Type 0 where
  pub ends : IfSome part AreEnds
  pub keeps : IsCursor c
  pub are : lines ≡ stored_lines part c
