use Rattle.std.proofs.{Common.{ap}, lemmas.Result.{err_from_is_err_and}}
use Rattle.ocfl_tree.specs.Store.{Store}
use Rattle.ocfl_folder.proofs.Ways.{nothing_beyond}
use Rattle.ocfl_folder.proofs.going.descend.Goals as goal

pub returns-in_err-step_down-clause-here : goal.returns-in_err-step_down-clause-here
returns-in_err-step_down-clause-here g c = λ told is.
    let p = err_from_is_err_and c.from_residual.result c.from_residual.ensures.1 in
    rw (p.1, p.2) (λ absent. nothing_beyond _ _ c.args.names.now c.loop-i.i _ _ (ap (λ (s : Store). s.tree) (c.loop-i.invariant.0 told)) c.loop-i-test.true c.index-names-i.is c.as_str.ensures.value
    (c.in_err-step_down.ensures.here told _ (c.loop-i.invariant.1 told is) absent))
