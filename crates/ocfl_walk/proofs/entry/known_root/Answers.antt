use Rattle.std.proofs.{Common.{◌∙◌, arith}, lemmas.Result.{err_from_is_err_and}}
use Rattle.ocfl_item.proofs.LooksCalls.{enters_at, root_listable}
use Rattle.ocfl_walk.proofs.EnterLaws.{root_known, root_stops, root_unknown}
use Rattle.ocfl_walk.proofs.entry.known_root.Goals as goal

pub returns-in_err-base-clause-told : goal.returns-in_err-base-clause-told
returns-in_err-base-clause-told g c = λ h root over further.
    let p = err_from_is_err_and c.from_residual.result c.from_residual.ensures.1 in
    rw (p.1, p.2) (root_stops further root (g.T.Tree.state c.args.store.now) (g.T.Tree.state c.list.new.store) c.root.result _ c.root.ensures
    (c.in_err-base.ensures.told h root over further (root_listable root _ c.root.ensures)))

pub returns-in_default-clause-told : goal.returns-in_default-clause-told
returns-in_default-clause-told g c = λ h root over further.
    let k = enters_at root _ _ _ _ _ _ c.root.ensures (c.in_ok-base.ensures.told h root over further (root_listable root _ c.root.ensures)) in
    root_unknown further root (g.T.Tree.state c.args.store.now) (g.T.Tree.state c.list.new.store) c.in_ok-base.base c.head_of.result c.in_ok-base.ensures.ordinary c.head_of.ensures k c.in_default.not-Known

pub returns-clause-fair : goal.returns-clause-fair
returns-clause-fair g c = record { place = c.in_ok-base.ensures.place ∙ c.root.ensures; depth = omega arith; entries = c.in_ok-base.ensures.ordinary }

pub returns-clause-told : goal.returns-clause-told
returns-clause-told g c = λ h root over further.
    let k = enters_at root _ _ _ _ _ _ c.root.ensures (c.in_ok-base.ensures.told h root over further (root_listable root _ c.root.ensures)) in
    root_known further root (g.T.Tree.state c.args.store.now) (g.T.Tree.state c.list.new.store) c.in_ok-base.base c.head_of.result c.in_ok-base.ensures.ordinary c.head_of.ensures k c.in-Known.is
