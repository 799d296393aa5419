use Rattle.ocfl_reading.proofs.Counting.{AreCounted}
use Rattle.ocfl_reading.proofs.expected.count_paths.Given as goal

abbrev pub invariant-loop-number : goal.invariant-loop-number
invariant-loop-number g l = AreCounted (g.B.Read.remaining l.fn.list) (g.B.Read.remaining l.list) l.count
