use Rattle.std.proofs.Common.{◌≡◌, ◌++◌, map, take}
use Rattle.ocfl_report.specs.Line.{line_of}
use Rattle.ocfl_speaking.specs.Speaking.{lines_of}
use Rattle.ocfl_speaking.proofs.speaking.put_lines.Given as goal

abbrev pub invariant-loop-finding : goal.invariant-loop-finding
invariant-loop-finding l = map line_of l.said.items ≡ map line_of l.fn.said.items ++ lines_of (take l.finding-index l.findings)
