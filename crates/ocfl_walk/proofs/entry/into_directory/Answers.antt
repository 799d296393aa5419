use Rattle.std.proofs.lemmas.Result.{err_from_is_err_and}
use Rattle.ocfl_walk.proofs.HierarchyDown.{fair_in, fair_object, hier_closed, hier_fails, hier_in, hier_object, hier_stopped}
use Rattle.ocfl_walk.proofs.entry.into_directory.Goals as goal

pub returns-in-None-clause-fair : goal.returns-in-None-clause-fair
returns-in-None-clause-fair g c = λ d n fair. fair_in _ c.args.inner c.args.object.now c.requires fair

pub returns-in-None-clause-told : goal.returns-in-None-clause-told
returns-in-None-clause-told g c =
    λ h root over s d n k r. hier_in c.args.further root s (g.T.Tree.state c.args.store.now) d n c.args.inner k r c.args.object.now c.requires _ _ c.deref.ensures.value c.declaration.ensures.declared c.in-None.is

pub returns-in_err-around-in-One-clause-told : goal.returns-in_err-around-in-One-clause-told
returns-in_err-around-in-One-clause-told g c = λ h root over s d n k r.
    let p = err_from_is_err_and c.from_residual.result c.from_residual.ensures.1 in
    rw (p.1, p.2) (hier_fails c.args.further root s (g.T.Tree.state c.args.store.now) d n c.args.inner k r c.args.object.now c.requires _ _ c.deref.ensures.value
    c.declaration.ensures.declared c.declaration.ensures.unknown c.in-One.field-0 c.in-One.is (g.T.Tree.state c.opened.new.store) _ (c.in_err-around-in-One.ensures.told h root over))

pub returns-in_default-clause-told : goal.returns-in_default-clause-told
returns-in_default-clause-told g c =
    λ h root over s d n k r. hier_closed c.args.further root s (g.T.Tree.state c.args.store.now) d n c.args.inner k r c.args.object.now c.requires _ _ c.deref.ensures.value
    c.declaration.ensures.declared c.declaration.ensures.unknown c.in-One.field-0 c.in-One.is (g.T.Tree.state c.opened.new.store) (rw c.in_default.is at c.in_ok-around-in-One.ensures.told h root over)

pub returns-in-Some-clause-fair : goal.returns-in-Some-clause-fair
returns-in-Some-clause-fair g c = λ d n fair. fair_object _ c.args.inner c.in-Some.around (rw c.in-Some.is at c.in_ok-around-in-One.ensures.kept) fair

pub returns-in-Some-clause-told : goal.returns-in-Some-clause-told
returns-in-Some-clause-told g c =
    λ h root over s d n k r. hier_object c.args.further root s (g.T.Tree.state c.args.store.now) d n c.args.inner k r c.args.object.now c.requires _ _ c.deref.ensures.value
    c.declaration.ensures.declared c.declaration.ensures.unknown c.in-One.field-0 c.in-One.is (g.T.Tree.state c.opened.new.store) c.in-Some.around
    (rw c.in-Some.is at c.in_ok-around-in-One.ensures.told h root over)

pub returns-in-Unknown-clause-told : goal.returns-in-Unknown-clause-told
returns-in-Unknown-clause-told g c = λ h root over s d n k r.
    hier_stopped c.args.further root s (g.T.Tree.state c.args.store.now) d n c.args.inner k r c.args.object.now c.requires _ _ c.deref.ensures.value
    c.declaration.ensures.declared c.declaration.ensures.unknown c.in-Unknown.is
