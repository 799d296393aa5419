-- The report's lines of a place.
use Rattle.std.specs.Prelude.{List, map}
use Rattle.ocfl_report.specs.Line.{Line}
use Rattle.ocfl_inventory.specs.{Note.{lines_at}, Remark.{remark_view}}
use Rattle.ocfl_item.specs.declared.lines.PlaceLines.{PlaceLines}

abbrev pub lines_of : PlaceLines → List Line
lines_of l = lines_at l.place (map remark_view l.remarks.items)
