-- A list of objects as a report.
use Rattle.std.specs.Prelude.{codes}
use Rattle.ocfl_tree.specs.Place.{Place}
use Rattle.ocfl_report.specs.{Line.{Line}, declared.code.Code.TheVariants.{Clean}}

-- the line of an object at which nothing is found
abbrev pub as_object : Place → Line
as_object p = record { code = Clean; place = p; detail = codes "-" }
