use Rattle.std.specs.Io.KnownBytes.{Keeps}
use Rattle.ocfl_report.proofs.output.write_some.Given as goal

abbrev pub invariant-loop : goal.invariant-loop
invariant-loop g l = Keeps (g.W.Write.contents l.fn.out) (g.W.Write.contents l.out)
