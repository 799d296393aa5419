-- The parts of the text of a part's cursor.
use Rattle.std.specs.Prelude.{◌≡◌}
use Rattle.ocfl_tree.specs.Place.{Text}
use Rattle.ocfl_cursor.specs.Cursor.{Cursor, IsCursor}
use Rattle.ocfl_cursor.specs.Part.{AreEnds, part_body, part_lines, IsPartText}
use Rattle.ocfl_cursor.specs.declared.ends.PartEnds.{PartEnds}

-- the text is that of this part's cursor before its digest line
pub record IsPartBody (e : PartEnds) (body : Text) (c : Cursor) : Type 0 where
  pub ends : AreEnds e
  pub keeps : IsCursor c
  pub is : body ≡ part_body e c

-- the text is that of some part's cursor, and these are its lines
pub record ArePartTextLines (b lines : Text) : Type 0 where
  pub ends : PartEnds
  pub cursor : Cursor
  pub is_text : IsPartText ends b cursor
  pub lines_are : lines ≡ part_lines ends cursor
