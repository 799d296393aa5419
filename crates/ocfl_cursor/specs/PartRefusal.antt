-- Why bytes are not the text of a cursor of a part: the first reason that applies.
use Rattle.std.specs.{Prelude.{◌≢◌, ◌||◌, nat_eq, Bool, true, codes}, List.{starts_with}}
use Rattle.ocfl_tree.specs.Place.{Text}
use Rattle.ocfl_report.specs.declared.further.Further.TheVariants.{Nothing, Inventories}
use Rattle.ocfl_cursor.specs.{Cursor.{Cursor}, Part.{part_first_line, IsPartText}, Refusal.{is_sealed}}
use Rattle.ocfl_cursor.specs.{Refused.{first_reason, IsRefused, refused_text}, declared.ends.PartEnds.{PartEnds}}
use Rattle.ocfl_cursor.specs.declared.refused.PartRefused.{PartRefused}
use Rattle.ocfl_cursor.specs.declared.refused.PartRefused.TheVariants as part
use Rattle.ocfl_cursor.specs.declared.refused.Refused.{Refused}
use Rattle.ocfl_cursor.specs.declared.refused.TextKind.TheVariants as kind

-- the first line is that of a part's cursor, in one of its two versions
abbrev pub is_part_front : Text → Bool
is_part_front b = starts_with nat_eq b (part_first_line Nothing) || starts_with nat_eq b (part_first_line Inventories)

-- of bytes that are the text of no part's cursor; the version is in their first line
abbrev pub part_refusal : Text → Refused
part_refusal b = first_reason kind.Cursor (is_part_front b) true (is_sealed b)

-- what is so of bytes that are refused as the cursor of any part
abbrev pub AnyPartRefusedRightly : Text → Refused → Type 0
AnyPartRefusedRightly b why = IsRefused (part_refusal b) ((e : PartEnds) × ((c : Cursor) × IsPartText e b c)) why

-- the text of a cursor of another part
pub record IsOfOtherPart (e : PartEnds) (b : Text) : Type 0 where
  pub ends : PartEnds
  pub cursor : Cursor
  pub is : IsPartText ends b cursor
  pub other : ends ≢ e

-- and as that of one part
abbrev pub PartRefusedRightly : PartEnds → Text → PartRefused → Type 0
PartRefusedRightly e b (part.Text why) = AnyPartRefusedRightly b why
PartRefusedRightly e b part.OtherPart = IsOfOtherPart e b

-- what is said of it
abbrev pub part_refused_text : PartRefused → Text
part_refused_text (part.Text why) = refused_text why
part_refused_text part.OtherPart = codes "another part"
