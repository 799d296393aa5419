-- What a line says beside its place.
use Rattle.std.specs.Prelude.{List, map, codes}
use Rattle.ocfl_tree.specs.Place.{Text, Place}
use Rattle.ocfl_report.specs.{Line.{Line}, declared.code.Code.{Code}}

-- a line without its place
pub record Note : Type 0 where
  pub code : Code
  pub detail : Text

abbrev pub note : Code → Text → Note
note c d = record { code = c; detail = d }

-- a line whose detail is a dash
abbrev pub plain : Code → Note
plain c = note c (codes "-")

-- each line of an item has the item's place
abbrev pub lines_at : Place → List Note → List Line
lines_at p ns = map (λ n. record { code = n.code; place = p; detail = n.detail }) ns
