use Rattle.std.proofs.{Common.{◌≤◌, length, All, subst, arith}, lemmas.List.{take_all}}
use Rattle.std.proofs.lemmas.List.Elements.{All-more}
use Rattle.ocfl_state.specs.Checkpoint.{IsLeft}
use Rattle.ocfl_state.proofs.checkpoint_laws.each_left_fits.Goals as goal

pub loop-one-preserved : goal.loop-one-preserved
loop-one-preserved c =
    All-more IsLeft c.args.left.now c.loop-one.one-index c.one-item.result c.loop-one-test.true c.loop-one.invariant (subst IsLeft c.one-item.is c.left_fits.ensures)

pub returns-clause-each : goal.returns-clause-each
returns-clause-each c =
    let all : length c.args.left.now ≤ c.loop-one.one-index = omega arith in
    subst (All IsLeft) (take_all c.loop-one.one-index c.args.left.now all) c.loop-one.invariant
