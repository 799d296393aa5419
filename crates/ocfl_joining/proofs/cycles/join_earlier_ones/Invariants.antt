use Rattle.std.proofs.Common.{◌≡◌, ◌⊎◌, ◌≤◌, IsTrue}
use Rattle.ocfl_joining.specs.{Cycles.{oldest}, Internal.Cycling.{AreTried}}
use Rattle.ocfl_joining.proofs.cycles.join_earlier_ones.Given as goal

abbrev pub invariant-loop-cycle : goal.invariant-loop-cycle
invariant-loop-cycle g l = record {
  first : l.first ≡ oldest l.last;
  bound : (l.cycle ≤ l.last) ⊎ (l.cycle ≡ l.first);
  tried : IsTrue g.C.PartCycles.told → AreTried l.parts l.first l.cycle (g.C.PartCycles.seen l.fn.cycles) (g.C.PartCycles.seen l.cycles) l.all;
}
