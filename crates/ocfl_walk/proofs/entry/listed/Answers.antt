use Rattle.std.proofs.Common.{◌≡◌, ◌++◌, ◌∷◌, [], true, sym, subst, ◌∙◌}
use Rattle.std.proofs.lemmas.Result.{err_from_is_err_and}
use Rattle.ocfl_item.specs.Ways.{is_listable}
use Rattle.ocfl_item.proofs.{LooksEntries.{listable_is}, LooksCalls.{enters_at}}
use Rattle.ocfl_walk.proofs.{DescentLaws.{stops_memory}, LeadsLaws.{may_depth}}
use Rattle.ocfl_walk.proofs.entry.listed.Goals as goal

pub returns-clause-told : goal.returns-clause-told
returns-clause-told g c = λ h root over further listing.
    let may : is_listable root (c.args.folder.now.place ++ c.args.name.now ∷ []) ≡ true =
    sym (listable_is root c.args.folder.now.place c.args.name.now c.args.folder.now.entries.items listing) ∙ sym c.can_enter.ensures ∙ c.if-not-can_enter.false in
    enters_at root _ _ _ _ _ _ c.in_ok-place.ensures (c.in_ok-list.ensures.told h root over further (subst (λ p. is_listable root p ≡ true) (sym c.in_ok-place.ensures) may))

pub returns-in_err-place-clause-told : goal.returns-in_err-place-clause-told
returns-in_err-place-clause-told g c = λ h root over further listing.
    let p = err_from_is_err_and c.from_residual.result c.from_residual.ensures.1 in
    rw (p.1, p.2) (stops_memory further root (g.T.Tree.state c.args.store.now) _ over)

pub returns-clause-fair : goal.returns-clause-fair
returns-clause-fair g c = record {
  place = c.in_ok-list.ensures.place ∙ c.in_ok-place.ensures;
  depth = may_depth c.args.folder.now.place c.args.name.now _ (sym c.can_enter.ensures ∙ c.if-not-can_enter.false);
  entries = c.in_ok-list.ensures.ordinary;
}
