use Rattle.std.proofs.{Common.{◌≡◌, subst, None}, lemmas.Result.{err_from_is_err_and}}
use Rattle.std.specs.Prelude.{Ok, Err}
use Rattle.ocfl_tree.specs.Listing.{kind_in}
use Rattle.ocfl_walk.proofs.FindLaws.{item_met, item_refused, item_unmet, finds_none, finds_nothing, missing_out, missing_table, missing_unseen, visits_listed}
use Rattle.ocfl_walk.proofs.find.item_in.Goals as goal

pub returns-in_err-visit_path : goal.returns-in_err-visit_path
returns-in_err-visit_path g c = record {
  told = λ h root over at part is.
      let p = err_from_is_err_and c.from_residual.result c.from_residual.ensures.1 in
      rw (p.1, p.2) (item_refused c.args.further root _ _ _ _ _ (finds_nothing c.args.further root _ _ _ over));
}

pub returns-in_default : goal.returns-in_default
returns-in_default g c = record {
  told = λ h root over at part is.
      let none : kind_in c.args.folder.now.entries.items c.args.name.now ≡ None =
      subst (λ es. kind_in es c.args.name.now ≡ None) c.as_slice-entries.ensures.value (rw c.in_default.is at c.entry_named.ensures) in
      let told = c.in_ok-visit_path.ensures.told c.args.further root (missing_table c.args.further root _ _ _ _ at is none _ part) (missing_unseen c.args.further root _ _ _ _ at is none) in
      record { gives = (finds_none c.args.further root _ c.args.place.now _ over (missing_out c.args.further root _ _ _ _ at is none), told) };
}

pub returns-in_err-place : goal.returns-in_err-place
returns-in_err-place g c = record {
  told = λ h root over at part is.
      let p = err_from_is_err_and c.from_residual-in_err-place.result c.from_residual-in_err-place.ensures.1 in
      rw (p.1, p.2) (item_refused c.args.further root _ _ _ _ _ (finds_nothing c.args.further root _ _ _ over));
}

pub returns-in_err-visit : goal.returns-in_err-visit
returns-in_err-visit g c = record {
  told = λ h root over at part is.
      let p = err_from_is_err_and c.from_residual-in_err-visit.result c.from_residual-in_err-visit.ensures.1 in
      let named = rw c.in-Some.is at c.entry_named.ensures in
      let v = visits_listed c.args.further root c.args.folder.now.place c.args.place.now _ c.args.name.now c.args.folder.now.entries.items _
      c.args.around.now c.in-Some.entry.now (g.T.Tree.state c.args.store.now) (g.T.Tree.state c.visit_entry.new.store) (Err c.in_err-visit.field-0.0) at part is
      c.in_ok-place.ensures c.as_slice-entries.ensures.value named.0 named.1 (c.in_err-visit.ensures.told h root over) in
      rw (p.1, p.2) (item_unmet c.args.further root c.args.folder.now.place c.args.place.now c.args.name.now c.args.around.now is part (g.T.Tree.state c.args.store.now)
      (g.T.Tree.state c.visit_entry.new.store) c.in_err-visit.field-0.0 v);
}

pub returns : goal.returns
returns g c = record {
  told = λ h root over at part is.
      let named = rw c.in-Some.is at c.entry_named.ensures in
      let v = visits_listed c.args.further root c.args.folder.now.place c.args.place.now _ c.args.name.now c.args.folder.now.entries.items _
      c.args.around.now c.in-Some.entry.now (g.T.Tree.state c.args.store.now) (g.T.Tree.state c.visit_entry.new.store) (Ok c.in_ok-visit.visit) at part is
      c.in_ok-place.ensures c.as_slice-entries.ensures.value named.0 named.1 (c.in_ok-visit.ensures.told h root over) in
      item_met c.args.further root c.args.folder.now.place c.args.place.now c.args.name.now c.args.around.now is part (g.T.Tree.state c.args.store.now)
      (g.T.Tree.state c.visit_entry.new.store) c.in_ok-visit.visit v;
}
