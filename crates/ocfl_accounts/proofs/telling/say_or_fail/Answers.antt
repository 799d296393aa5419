use Rattle.std.proofs.Common.{Some, None, refl, subst, sym}
use Rattle.ocfl_accounts.specs.{Causes.{IsReason}, Telling.{MayAccount}}
use Rattle.ocfl_accounts.proofs.Passing.{then_same}
use Rattle.ocfl_accounts.proofs.telling.say_or_fail.Goals as goal

pub returns-in-Ok-clause-said : goal.returns-in-Ok-clause-said
returns-in-Ok-clause-said g c = λ t. (None, c.in-Ok.ensures.said t)

pub returns-in-Err-clause-said : goal.returns-in-Err-clause-said
returns-in-Err-clause-said g c = λ t.
    let F = g.C.Closings in
    let old = g.S.Say.said c.args.out.now in
    let new = g.S.Say.said c.say_cycle.new.out in (
      Some c.in-Err.stop,
      (
        subst (MayAccount (F.seen c.args.closings.now) c.args.cycle (F.says (F.with c.args.closings.now)) old new (F.seen c.args.closings.now)) (sym (c.fail.ensures.seen t)) (c.say_cycle.ensures.may t),
        (c.say_cycle.ensures.grew, (refl, subst (λ n. IsReason (F.faults c.args.closings.now) n old new c.in-Err.stop) (sym (c.fail.ensures.faults t)) (c.in-Err.ensures.cause t))),
      ),
    )

pub returns-in-Err-clause-crash : goal.returns-in-Err-clause-crash
returns-in-Err-clause-crash g c = λ t.
    let F = g.C.Closings in
    then_same F.may_leave F.moment F.left_since (MayAccount (F.seen c.args.closings.now) c.args.cycle (F.says (F.with c.args.closings.now)) (g.S.Say.said c.args.out.now) (g.S.Say.said c.say_cycle.new.out))
    c.args.closings.now c.say_cycle.new.closings c.fail.new.self (c.say_cycle.ensures.crash t) (c.fail.ensures.crash t)

pub returns-in-Err-clause-may : goal.returns-in-Err-clause-may
returns-in-Err-clause-may g c = λ t.
    let F = g.C.Closings in
    subst (MayAccount (F.seen c.args.closings.now) c.args.cycle (F.says (F.with c.args.closings.now)) (g.S.Say.said c.args.out.now) (g.S.Say.said c.say_cycle.new.out) (F.seen c.args.closings.now)) (sym (c.fail.ensures.seen t)) (c.say_cycle.ensures.may t)
