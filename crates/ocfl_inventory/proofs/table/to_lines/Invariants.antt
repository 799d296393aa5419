use Rattle.std.proofs.Common.{◌≡◌, [], map}
use Rattle.ocfl_report.specs.Line.{line_of}
use Rattle.ocfl_inventory.specs.{Note.{lines_at}, Remark.{remark_view}}
use Rattle.ocfl_inventory.proofs.table.to_lines.Given as goal

abbrev pub invariant-loop-remark : goal.invariant-loop-remark
invariant-loop-remark l = map line_of l.lines.items ≡ lines_at [] (map remark_view l.yielded)
