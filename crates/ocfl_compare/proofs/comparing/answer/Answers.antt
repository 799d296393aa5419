use Rattle.std.proofs.lemmas.Result.{err_from_is_err_and}
use Rattle.ocfl_compare.proofs.SoFar.{begun, compared}
use Rattle.ocfl_compare.proofs.comparing.answer.Goals as goal

pub loop-init : goal.loop-init
loop-init g c =
    begun c.args.asked c.args.left.now (g.R.Read.remaining c.args.before.now) (g.R.Read.remaining c.begin.new.before) (g.S.Read.remaining c.args.now.now) (g.S.Read.remaining c.begin.new.now) _ c.in_ok-both.both.before.next
    c.in_ok-both.both.now.next c.in_ok-both.both.before.count c.in_ok-both.both.now.count c.in_ok-both.both.shut c.in_ok-both.ensures.before c.in_ok-both.ensures.now c.in_ok-both.ensures.open
    (g.met.T.TakeChange.nothing c.args.taker.now)

pub returns-in-Ok-None-clause-answered : goal.returns-in-Ok-None-clause-answered
returns-in-Ok-None-clause-answered g c =
    let next = rw c.in-Ok-None.field-0-is at c.in-Ok-None.ensures in
    compared c.args.asked c.args.left.now (g.R.Read.remaining c.args.before.now) (g.R.Read.remaining c.loop.before) (g.S.Read.remaining c.args.now.now) (g.S.Read.remaining c.loop.now)
    (λ changes. g.T.TakeChange.takes c.args.taker.now changes c.loop.taker) c.loop.both.before.next c.loop.both.now.next c.loop.both.before.count c.loop.both.now.count c.loop.both.shut next c.loop.invariant

pub returns-in_err-both-2-clause-refused : goal.returns-in_err-both-2-clause-refused
returns-in_err-both-2-clause-refused g c =
    let p = err_from_is_err_and c.from_residual-in_err-both-2.result c.from_residual-in_err-both-2.ensures.1 in
    rw (p.1, p.2)
    (c.in_err-both-2.ensures.refused (g.R.Read.remaining c.args.before.now) (g.S.Read.remaining c.args.now.now) c.args.taker.now c.loop.invariant)

pub loop-preserved : goal.loop-preserved
loop-preserved g c = c.in_ok-both-2.ensures.ok (g.R.Read.remaining c.args.before.now) (g.S.Read.remaining c.args.now.now) c.args.taker.now c.loop.invariant
