use Rattle.std.proofs.Common.{subst}
use Rattle.ocfl_closed.specs.Unchanged.{IsUnchangedSince}
use Rattle.ocfl_closed.proofs.finding.compare_before.Goals as goal

pub returns-clause-unchanged : goal.returns-clause-unchanged
returns-clause-unchanged g c = λ told.
    subst (IsUnchangedSince (g.D.ClosedDisk.state c.args.disk.now).files c.args.pair.now) c.cycle.ensures (c.in_ok-compare_with.ensures.unchanged told)
