use Rattle.std.proofs.Common.{◌≡◌, IsTrue}
use Rattle.ocfl_joining.specs.Cycles.{have_all}
use Rattle.ocfl_joining.proofs.cycles.have_all.Given as goal

abbrev pub invariant-loop-index : goal.invariant-loop-index
invariant-loop-index g l = record {
  have : IsTrue g.C.PartCycles.told → l.have ≡ have_all (g.C.PartCycles.seen l.fn.cycles).closed l.index l.cycle;
  seen : IsTrue g.C.PartCycles.told → g.C.PartCycles.seen l.cycles ≡ g.C.PartCycles.seen l.fn.cycles;
}
