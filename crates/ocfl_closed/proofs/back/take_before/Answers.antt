use Rattle.std.proofs.Common.{arith}
use Rattle.ocfl_closed.proofs.Lost.{keeps_at, keeps_at_none}
use Rattle.ocfl_closed.proofs.back.take_before.Goals as goal

pub returns-then-cycle-eq0-clause-taken : goal.returns-then-cycle-eq0-clause-taken
returns-then-cycle-eq0-clause-taken g c = λ told.
    keeps_at_none (g.D.ClosedDisk.state c.args.disk.now).files.lists c.args.cycle c.args.gone.now.items c.if-cycle-eq0.true

pub returns-clause-taken : goal.returns-clause-taken
returns-clause-taken g c = λ told.
    let some = c.if-cycle-eq0.false in
    keeps_at c.take_list.result (g.D.ClosedDisk.state c.args.disk.now).files.lists c.args.cycle c.args.gone.now.items c.take_list.new.gone.items (omega (arith, some)) (c.take_list.ensures.taken told)
