-- The text of a part's cursor, which names the part.
use Rattle.std.specs.Prelude.{◌≡◌, [], ◌∷◌, ◌++◌, Option, Some, None, IfSome, if◌then◌else◌, codes}
use Rattle.ocfl_tree.specs.{Place.{Text, text_eq, Place}, Name.{IsPlace}}
use Rattle.ocfl_report.specs.Text.{place_text}
use Rattle.ocfl_report.specs.declared.further.Further.{Further}
use Rattle.ocfl_report.specs.declared.further.Further.TheVariants.{Nothing, Inventories}
use Rattle.ocfl_cursor.specs.Cursor.{Cursor, IsCursor, cursor_lines, digest_line}
use Rattle.ocfl_cursor.specs.declared.ends.PartEnds.{PartEnds}

-- a place of names, if there is one
abbrev pub HasNames : Option Place → Type 0
HasNames end = IfSome end IsPlace

pub record AreEnds (e : PartEnds) : Type 0 where
  pub from : HasNames e.from
  pub below : HasNames e.below

-- an end: a word if there is no place, else the place's text, with `./` before it if that is
-- the word
abbrev pub end_text : Text → Option Place → Text
end_text word None = word
end_text word (Some p) = if text_eq (place_text p) word then codes "./" ++ place_text p else place_text p

abbrev pub end_line : Text → Text → Option Place → Text
end_line front word end = front ++ end_text word end ++ 10 ∷ []

abbrev pub ends_lines : PartEnds → Text
ends_lines e = end_line (codes "from ") (codes "start") e.from ++ end_line (codes "below ") (codes "end") e.below

-- the text without its first line and its last: what is shown of a part's cursor
abbrev pub part_lines : PartEnds → Cursor → Text
part_lines e c = ends_lines e ++ cursor_lines c

-- the first line, which names the version
abbrev pub part_first_line : Further → Text
part_first_line Nothing = codes "ocfl-scrub part cursor 1\n"
part_first_line Inventories = codes "ocfl-scrub part cursor 2\n"

-- the text before its last line
abbrev pub part_body : PartEnds → Cursor → Text
part_body e c = part_first_line c.further ++ ends_lines e ++ cursor_lines c

abbrev pub part_text : PartEnds → Cursor → Text
part_text e c = part_body e c ++ digest_line (part_body e c)

-- the bytes are the text of a cursor of this part
pub record IsPartText (e : PartEnds) (b : Text) (c : Cursor) : Type 0 where
  pub ends : AreEnds e
  pub keeps : IsCursor c
  pub is : b ≡ part_text e c
