use Rattle.std.proofs.Common.{sym, ◌∙◌}
use Rattle.ocfl_closed.specs.Unchanged.{is_before}
use Rattle.ocfl_closed.proofs.Opened.{now_checked, now_unchecked}
use Rattle.ocfl_closed.proofs.opening.open_now.Goals as goal

pub returns-then-is_before-clause-bytes : goal.returns-then-is_before-clause-bytes
returns-then-is_before-clause-bytes g c = λ told.
    now_checked c.open_checked.result _ (g.D.ClosedDisk.state c.args.disk.now).files c.args.pair.now.closed.cycle c.cycle-cycle.result (is_before c.args.pair.now c.args.before) c.cycle-cycle.ensures (sym c.is_before.ensures ∙ c.if-is_before.true)
    (c.open_checked.ensures.bytes told)

pub returns-clause-bytes : goal.returns-clause-bytes
returns-clause-bytes g c = λ told.
    now_unchecked c.open_reader.result _ (g.D.ClosedDisk.state c.args.disk.now).files c.args.pair.now.closed.cycle c.cycle-cycle.result (is_before c.args.pair.now c.args.before) c.cycle-cycle.ensures (sym c.is_before.ensures ∙ c.if-is_before.false)
    (c.open_reader.ensures.bytes told)
