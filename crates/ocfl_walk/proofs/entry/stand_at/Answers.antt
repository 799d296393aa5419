use Rattle.std.proofs.lemmas.Result.{err_from_is_err_and}
use Rattle.ocfl_walk.proofs.EnterLaws.{start_memory}
use Rattle.ocfl_walk.proofs.entry.stand_at.Goals as goal

pub returns-in_err-stand-clause-told : goal.returns-in_err-stand-clause-told
returns-in_err-stand-clause-told g c = λ h root over.
    let p = err_from_is_err_and c.from_residual.result c.from_residual.ensures.1 in
    rw (p.1, p.2) (start_memory c.args.further root (g.T.Tree.state c.args.store.now) c.args.after.now over)
