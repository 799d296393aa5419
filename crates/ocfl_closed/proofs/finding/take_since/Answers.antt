use Rattle.std.proofs.lemmas.Result.{on_ok_weaker}
use Rattle.ocfl_closed.proofs.Changeless.{before_of}
use Rattle.ocfl_closed.proofs.finding.take_since.Goals as goal

pub returns-in-Some-clause-unchanged : goal.returns-in-Some-clause-unchanged
returns-in-Some-clause-unchanged g c = λ told.
    on_ok_weaker c.compare_before.result (λ u. before_of (g.D.ClosedDisk.state c.args.disk.now).files c.args.pair.now _ c.in-Some.is u) (c.compare_before.ensures.unchanged told)
