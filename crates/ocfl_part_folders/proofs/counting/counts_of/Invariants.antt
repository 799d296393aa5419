use Rattle.ocfl_part_folders.proofs.Counted.{IsReadOn}
use Rattle.ocfl_part_folders.proofs.counting.counts_of.Given as goal

-- what was read was counted
abbrev pub invariant-loop : goal.invariant-loop
invariant-loop g l = IsReadOn (g.B.Read.remaining l.fn.report) (g.B.Read.remaining l.report) l.tally
