use Rattle.std.proofs.Common.{◌≤◌}
use Rattle.std.specs.Prelude.{IsTrue}
use Rattle.ocfl_closed.specs.Cut.{Still}
use Rattle.ocfl_closed.proofs.Lost.{AreKept}
use Rattle.ocfl_closed.proofs.back.gone_before.Given as goal

abbrev pub invariant-loop-back : goal.invariant-loop-back
invariant-loop-back g l =
    let D = g.D.ClosedDisk in
    record {
      still : IsTrue D.told → Still (D.state l.fn.disk) (D.state l.disk);
      faults : IsTrue D.told → (D.faults l.fn.disk) ≤ (D.faults l.disk);
      lost : IsTrue D.told → AreKept (D.state l.fn.disk).files.lists l.cycle l.back l.gone.items;
    }
