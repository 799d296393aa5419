use Rattle.std.proofs.Common.{◌-◌, ◌≤◌, [], length, take}
use Rattle.std.specs.Prelude.{IsTrue}
use Rattle.ocfl_state.specs.Pieces.{Carries}
use Rattle.ocfl_closed.specs.Cut.{Still}
use Rattle.ocfl_closed.proofs.marking.push_all.Given as goal

abbrev pub invariant-loop-start : goal.invariant-loop-start
invariant-loop-start g l =
    let D = g.D.ClosedDisk in
    record {
      still : IsTrue D.told → Still (D.state l.fn.disk) (D.state l.disk);
      faults : IsTrue D.told → (D.faults l.fn.disk) ≤ (D.faults l.disk);
      within : IsTrue D.told → Carries l.fn.digests [] → l.start ≤ length (g.D.Report.OpenReport.bytes l.report);
      carries : IsTrue D.told → Carries l.fn.digests [] → Carries l.digests (take l.start (g.D.Report.OpenReport.bytes l.report));
    }

abbrev pub decreases-loop-start : goal.decreases-loop-start
decreases-loop-start g l = 9223372036854775808 - l.start
