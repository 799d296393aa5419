use Rattle.std.proofs.{Common.{◌<◌, ◌≤◌, length, rules, subst}, lemmas.Result.{err_from_is_err_and}}
use Rattle.ocfl_item.specs.Meeting.{IsVisit}
use Rattle.ocfl_item.proofs.{ShutLaws.{shut_deep}, VisitLaws.{shut_visits, visits_memory, visits_refused, visits_stop, visits_told}}
use Rattle.ocfl_item.proofs.VisitPlaces.{deep_plain, fair_over, listed_as, looked_either, object_visits, short_listable, undeclared_met}
use Rattle.ocfl_item.proofs.visit.visit_directory.Goals as goal

pub returns-then-depth-gt-MAX_LISTED_DEPTH-clause-told :
    goal.returns-then-depth-gt-MAX_LISTED_DEPTH-clause-told
returns-then-depth-gt-MAX_LISTED_DEPTH-clause-told g c = λ h root over here.
    let e = c.args.place in
    let deep : 127 < length e = search rules in
    shut_visits c.args.further root _ e over (shut_deep root e deep) _ (c.in_ok-visit_plain.ensures.told c.args.further root (deep_plain c.args.further root e here deep))

pub returns-in_err-visit_plain-clause-told : goal.returns-in_err-visit_plain-clause-told
returns-in_err-visit_plain-clause-told g c = λ h root over here. visits_refused c.args.further root _ _ _ over c.from_residual.ensures.1

pub returns-in_err-folder-clause-told : goal.returns-in_err-folder-clause-told
returns-in_err-folder-clause-told g c = λ h root over here.
    let e = c.args.place in
    let short : length e ≤ 127 = search rules in
    let p = err_from_is_err_and c.from_residual-in_err-folder.result c.from_residual-in_err-folder.ensures.1 in
    rw (p.1, p.2) (visits_stop c.args.further root _ _ e _ (looked_either root e here short) (c.in_err-folder.ensures.told h root over c.args.further (short_listable root e here short)))

pub returns-in_default-clause-fair : goal.returns-in_default-clause-fair
returns-in_default-clause-fair g c =
    fair_over c.args.place c.in_ok-folder.folder c.visit_object.result c.in_ok-folder.ensures.place (search rules) (λ short. c.visit_object.ensures.fair short c.in_ok-folder.ensures.ordinary)

pub returns-in_ok-visit_undeclared-in-None-clause-told : goal.returns-in_ok-visit_undeclared-in-None-clause-told
returns-in_ok-visit_undeclared-in-None-clause-told g c = λ h root over here.
    let k = listed_as root _ _ c.args.place c.in_ok-folder.folder c.declaration.result _ over here (search rules)
    (c.in_ok-folder.ensures.told h root over c.args.further) c.in_ok-folder.ensures.ordinary c.deref.ensures.value c.declaration.ensures.declared c.declaration.ensures.unknown in
    let met = undeclared_met c.args.further root _ _ c.args.place c.in_ok-folder.folder c.declaration.result k c.in-None.is in
    visits_told c.args.further root _ _ _ _ met.0 (subst (λ x. IsVisit c.args.further root x c.in_ok-visit_undeclared-in-None.field-0) k.there.is (c.in_ok-visit_undeclared-in-None.ensures.told c.args.further root met.1))

pub returns-in_err-visit_undeclared-in-None-clause-told : goal.returns-in_err-visit_undeclared-in-None-clause-told
returns-in_err-visit_undeclared-in-None-clause-told g c = λ h root over here.
    let p = err_from_is_err_and c.from_residual-in_err-visit_undeclared-in-None.result c.from_residual-in_err-visit_undeclared-in-None.ensures.1 in
    let k = listed_as root _ _ c.args.place c.in_ok-folder.folder c.declaration.result _ over here (search rules)
    (c.in_ok-folder.ensures.told h root over c.args.further) c.in_ok-folder.ensures.ordinary c.deref.ensures.value c.declaration.ensures.declared c.declaration.ensures.unknown in
    rw (p.1, p.2) (visits_memory c.args.further root _ _ _ (undeclared_met c.args.further root _ _ c.args.place c.in_ok-folder.folder c.declaration.result k c.in-None.is).0)

pub returns-in_default-clause-told : goal.returns-in_default-clause-told
returns-in_default-clause-told g c = λ h root over here.
    let k = listed_as root _ _ c.args.place c.in_ok-folder.folder c.declaration.result _ over here (search rules)
    (c.in_ok-folder.ensures.told h root over c.args.further) c.in_ok-folder.ensures.ordinary c.deref.ensures.value c.declaration.ensures.declared c.declaration.ensures.unknown in
    object_visits c.args.further root _ _ c.args.place c.in_ok-folder.folder c.declaration.result k _ c.visit_object.result c.in_default.not-None (c.visit_object.ensures.told h root)
