use Rattle.std.proofs.Common.{◌<◌, ◌≤◌, ◌∙◌, sym, subst, [], length, rules}
use Rattle.std.proofs.lemmas.Result.{err_from_is_err_and}
use Rattle.ocfl_item.specs.Meeting.{IsItemAt}
use Rattle.ocfl_item.proofs.ShutLaws.{shut_deep}
use Rattle.ocfl_item.proofs.VisitLaws.{deep_notes, entered_meets, listable, looked_listed, no_notes, reached_here, relined, shut_visits, visit_of_folder, visits_refused, visits_stop, visits_told}
use Rattle.ocfl_item.proofs.visit.visit_listed.Goals as goal

pub returns-then-depth-gt-MAX_LISTED_DEPTH-clause-told :
    goal.returns-then-depth-gt-MAX_LISTED_DEPTH-clause-told
returns-then-depth-gt-MAX_LISTED_DEPTH-clause-told g c = λ h root over further here plain.
    let e = c.args.place in
    let deep : 127 < length e = search rules in
    shut_visits further root _ e over (shut_deep root e deep) _ (c.in_ok-visit_plain.ensures.told further root (relined further root e _ _ (deep_notes root e [] deep) plain))

pub returns-in_err-visit_plain-clause-told : goal.returns-in_err-visit_plain-clause-told
returns-in_err-visit_plain-clause-told g c = λ h root over further here plain. visits_refused further root _ _ _ over c.from_residual.ensures.1

pub returns-clause-told : goal.returns-clause-told
returns-clause-told g c = λ h root over further here plain.
    let e = c.args.place in
    let f = c.in_ok-folder.folder in
    let short : length e ≤ 127 = search rules in
    let inner = c.in_ok-folder.ensures.told h root over further (listable root e here short) in
    visits_told further root _ _ e _ (entered_meets further root _ _ e _ _ over inner (looked_listed root e here short) plain.head)
    (visit_of_folder further root e c.of_folder.result f (subst (IsItemAt further root e) (sym c.of_folder.ensures.item) (plain.lines ∙ no_notes root e short))
    c.of_folder.ensures.folder c.of_folder.ensures.table plain.head inner.is (reached_here root e here short) inner.listing)

pub returns-in_err-folder-clause-told : goal.returns-in_err-folder-clause-told
returns-in_err-folder-clause-told g c = λ h root over further here plain.
    let e = c.args.place in
    let short : length e ≤ 127 = search rules in
    let p = err_from_is_err_and c.from_residual-in_err-folder.result c.from_residual-in_err-folder.ensures.1 in
    rw (p.1, p.2) (visits_stop further root _ _ e _ (looked_listed root e here short) (c.in_err-folder.ensures.told h root over further (listable root e here short)))
