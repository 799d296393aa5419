use Rattle.std.proofs.Common.{map}
use Rattle.ocfl_inventory.specs.Remark.{remark_view}
use Rattle.ocfl_item.specs.Internal.Lines.{Adds}
use Rattle.ocfl_item.proofs.head_lines.add_remarks.Given as goal

abbrev pub invariant-loop-remark : goal.invariant-loop-remark
invariant-loop-remark l = Adds l.initial.lines l.lines (map remark_view l.yielded)
