use Rattle.std.proofs.Common.{◌≡◌, ◌++◌, map, take}
use Rattle.ocfl_report.specs.Line.{line_of}
use Rattle.ocfl_messages.specs.Closing.{repaired_lines}
use Rattle.ocfl_messages.proofs.closing.put_repaired_lines.Given as goal

abbrev pub invariant-loop-line : goal.invariant-loop-line
invariant-loop-line l = l.text.items ≡ l.fn.text.items ++ repaired_lines (map line_of (take l.line-index l.lines))
