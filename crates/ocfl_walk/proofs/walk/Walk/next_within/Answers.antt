use Rattle.std.proofs.lemmas.Result.{err_from_is_err_and}
use Rattle.ocfl_walk.specs.{WalkCalls.{FailsOut}, Walks.{GivesOut}}
use Rattle.ocfl_walk.proofs.WalkWords.{checks_this}
use Rattle.ocfl_walk.proofs.walk.Walk.next_within.Goals as goal

pub returns-in_err-item-clause-told : goal.returns-in_err-item-clause-told
returns-in_err-item-clause-told g c = λ h root over further last st.
    let p = err_from_is_err_and c.from_residual.result c.from_residual.ensures.1 in
    rw (p.1, p.2) (checks_this further root c.args.self last st
    (λ f. FailsOut f root (g.T.Tree.state c.args.store.now) (g.T.Tree.state c.go_on.new.store) last c.args.end.now c.in_err-item.field-0.0)
    (λ k. c.in_err-item.ensures.told h root over last k))

pub returns-clause-told : goal.returns-clause-told
returns-clause-told g c = λ h root over further last st.
    checks_this further root c.args.self last st
    (λ f. GivesOut f root (g.T.Tree.state c.args.store.now) (g.T.Tree.state c.go_on.new.store) last c.args.end.now c.go_on.new.self c.in_ok-item.item)
    (λ k. c.in_ok-item.ensures.told h root over last k)
