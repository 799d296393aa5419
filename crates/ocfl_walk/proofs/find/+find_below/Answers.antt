use Rattle.std.proofs.{Common.{◌∙◌, sym, subst}, lemmas.Result.{err_from_is_err_and}}
use Rattle.ocfl_item.specs.{Around.{IsPart}, Ways.{IsAt}}
use Rattle.ocfl_walk.proofs.FindLaws.{item_further, item_refused, item_stop, place_beyond, shut_finds, shut_table, shut_unseen}
use Rattle.ocfl_walk.proofs.find.+find_below.Goals as goal

pub returns-in_err-inner : goal.returns-in_err-inner
returns-in_err-inner g t c = record {
  told = λ h root over at part is.
      let p = err_from_is_err_and c.from_residual.result c.from_residual.ensures.1 in
      rw (p.1, p.2) (item_stop c.args.further root c.args.folder.place c.args.name.now c.args.rest.now c.args.place.now c.args.around c.down.new.object is
      (g.T.Tree.state c.args.store.now) (g.T.Tree.state c.down.new.store) _ (c.in_err-inner.ensures.told h root over at part c.args.rest.now));
}

pub returns-in_err-visit_path-in-None : goal.returns-in_err-visit_path-in-None
returns-in_err-visit_path-in-None g t c = record {
  told = λ h root over at part is.
      let p = err_from_is_err_and c.from_residual-in_err-visit_path-in-None.result c.from_residual-in_err-visit_path-in-None.ensures.1 in
      let leads = rw c.in-None.is at c.in_ok-inner.ensures.told h root over at part c.args.rest.now in
      rw (p.1, p.2) (item_refused c.args.further root _ _ _ _ _ (shut_finds c.args.further root c.args.folder.place c.args.name.now c.args.rest.now _ c.args.around c.down.new.object is _ _ leads).finds);
}

pub returns-in_ok-visit_path-in-None : goal.returns-in_ok-visit_path-in-None
returns-in_ok-visit_path-in-None g t c = record {
  told = λ h root over at part is.
      let parts = rw c.in-Some.is at c.split_first.ensures.cases in
      let leads = rw c.in-None.is at c.in_ok-inner.ensures.told h root over at part c.args.rest.now in
      let told = c.in_ok-visit_path-in-None.ensures.told c.args.further root
      (shut_table c.args.further root c.args.folder.place c.args.name.now c.args.rest.now _ c.args.around c.down.new.object is _ _ leads)
      (shut_unseen c.args.further root c.args.folder.place c.args.name.now c.args.rest.now _ c.args.around c.down.new.object is _ _ c.in-Some.next.now c.in-Some.behind.now parts.0 leads) in
      record { gives = (shut_finds c.args.further root c.args.folder.place c.args.name.now c.args.rest.now _ c.args.around c.down.new.object is _ _ leads, told) };
}

pub returns-in-Some-inner : goal.returns-in-Some-inner
returns-in-Some-inner g t c = record {
  told = λ h root over at part is.
      let parts = rw c.in-Some.is at c.split_first.ensures.cases in
      let leads = rw c.in-Some-inner.is at c.in_ok-inner.ensures.told h root over at part c.args.rest.now in
      let e = leads.gives.1.place in
      item_further c.args.further root c.args.folder.place c.args.name.now c.args.rest.now c.args.place.now c.args.around c.down.new.object is (g.T.Tree.state c.args.store.now)
      (g.T.Tree.state c.down.new.store) (g.T.Tree.state c.find_below.new.store) c.in-Some-inner.inner _ c.find_below.result parts.0 leads
      (c.find_below.ensures.told h root (leads.gives.0.goes.calls.did.tree ∙ over)
      (subst (λ x. IsAt root x c.in-Some-inner.inner.entries.items) (sym e) leads.gives.1.here) (subst (λ x. IsPart c.args.further root x c.down.new.object) (sym e) leads.gives.1.part)
      (place_beyond c.args.place.now c.args.folder.place c.in-Some-inner.inner.place c.args.name.now _ c.args.rest.now is e parts.0));
}
