-- What a remark says of an object: a line without its place.
use Rattle.std.specs.Prelude.{string_bytes}
use Rattle.ocfl_inventory.specs.{Note.{note, Note}, declared.remark.Remark.{Remark}}

abbrev pub remark_view : Remark → Note
remark_view r = note r.code (string_bytes r.detail)
