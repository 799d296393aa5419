use Rattle.std.proofs.{Common.{[], ◌∙◌, subst, sym, true}, lemmas.Bool.{not-true}, lemmas.Result.{err_from_is_err_and}}
use Rattle.ocfl_item.specs.{Around.{IsPart}, Ways.{is_extensions_name}}
use Rattle.ocfl_walk.specs.Internal.Entering.{LeadsOn}
use Rattle.ocfl_walk.proofs.LeadsLaws.{around_on}
use Rattle.ocfl_walk.proofs.DownLaws.{in_object, leads_in, leads_shut, leads_stop, shut_off, shut_unlisted}
use Rattle.ocfl_tree.proofs.Stores.{did_nothing}
use Rattle.ocfl_walk.proofs.entry.down.Goals as goal

pub returns-then-not-leads_on-clause-told : goal.returns-then-not-leads_on-clause-told
returns-then-not-leads_on-clause-told g c = λ h root over at part r.
    leads_shut c.args.further root (g.T.Tree.state c.args.store.now) (g.T.Tree.state c.args.store.now) c.args.folder.now.place c.args.name.now r c.args.object.now over (did_nothing _)
    (shut_off c.args.further root c.args.folder.now.place c.args.name.now r c.args.object.now part
    (subst (LeadsOn root c.args.folder.now.place c.args.name.now c.args.object.now) c.if-not-leads_on.true (c.leads_on.ensures root at)))

pub returns-in_err-inner-clause-told : goal.returns-in_err-inner-clause-told
returns-in_err-inner-clause-told g c = λ h root over at part r.
    let p = err_from_is_err_and c.from_residual.result c.from_residual.ensures.1 in
    rw (p.1, p.2) (leads_stop c.args.further root (g.T.Tree.state c.args.store.now) (g.T.Tree.state c.listed.new.store) c.args.folder.now.place c.args.name.now r
    c.args.object.now c.args.object.now _ (c.in_err-inner.ensures.told h root over c.args.further at.listing))

pub returns-in_default-clause-told : goal.returns-in_default-clause-told
returns-in_default-clause-told g c = λ h root over at part r.
    let k = rw c.in_default.is at c.in_ok-inner.ensures.told h root over c.args.further at.listing in
    leads_shut c.args.further root (g.T.Tree.state c.args.store.now) (g.T.Tree.state c.listed.new.store) c.args.folder.now.place c.args.name.now r c.args.object.now over k.did
    (shut_unlisted c.args.further root c.args.folder.now.place c.args.name.now r c.args.object.now part k.closed)

pub returns-in-None-clause-fair : goal.returns-in-None-clause-fair
returns-in-None-clause-fair g c = c.into_directory.ensures.fair c.args.folder.now.place c.args.name.now (rw c.in-Some.is at c.in_ok-inner.ensures.fair)

pub returns-in-None-clause-told : goal.returns-in-None-clause-told
returns-in-None-clause-told g c = λ h root over at part r.
    let d = c.args.folder.now.place in
    let n = c.args.name.now in
    let k = rw c.in-Some.is at c.in_ok-inner.ensures.told h root over c.args.further at.listing in
    let on = subst (λ a. LeadsOn root d n a true) c.in-None.is (subst (LeadsOn root d n c.args.object.now) c.if-not-leads_on.false (c.leads_on.ensures root at)) in
    c.into_directory.ensures.told h root (k.did.tree ∙ over) (g.T.Tree.state c.args.store.now) d n (record {
      over = over;
      entries = c.args.folder.now.entries.items;
      above = record { here = at; zone = subst (IsPart c.args.further root d) c.in-None.is part };
      on = not-true (is_extensions_name d n) (sym on);
      enters = k;
      ordinary = (rw c.in-Some.is at c.in_ok-inner.ensures.fair).entries;
    }) r

pub returns-in-Some-object-clause-fair : goal.returns-in-Some-object-clause-fair
returns-in-Some-object-clause-fair g c = (rw c.in-Some.is at c.in_ok-inner.ensures.fair, around_on c.args.folder.now.place c.args.name.now [] c.args.object.now c.requires)

pub returns-in-Some-object-clause-told : goal.returns-in-Some-object-clause-told
returns-in-Some-object-clause-told g c = λ h root over at part r.
    let k = rw c.in-Some.is at c.in_ok-inner.ensures.told h root over c.args.further at.listing in
    leads_in c.args.further root (g.T.Tree.state c.args.store.now) (g.T.Tree.state c.listed.new.store) c.args.folder.now.place c.args.name.now r c.args.object.now over c.in-Some.inner k.did
    (in_object c.args.further root c.args.folder.now.place c.args.name.now c.args.object.now _ c.in-Some-object.is part
    (subst (LeadsOn root c.args.folder.now.place c.args.name.now c.args.object.now) c.if-not-leads_on.false (c.leads_on.ensures root at)) _ _ _ c.in-Some.inner at k)
