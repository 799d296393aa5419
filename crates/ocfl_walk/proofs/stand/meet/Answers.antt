use Rattle.std.proofs.{Common.{sym, subst}, lemmas.Result.{err_from_is_err_and}}
use Rattle.ocfl_walk.specs.Internal.Standing.{IsAroundIf}
use Rattle.ocfl_item.specs.{Around.{IsMet}, Meeting.{IsFairVisit, IsVisit, Meets}}
use Rattle.ocfl_walk.proofs.MeetLaws.{around_fair, table_met}
use Rattle.ocfl_item.proofs.VisitLaws.{meet_nothing, meet_out}
use Rattle.ocfl_walk.proofs.stand.meet.Goals as goal

pub returns-in_err-try_clone-clause-told : goal.returns-in_err-try_clone-clause-told
returns-in_err-try_clone-clause-told g c = λ h root over d met behind.
    let p = err_from_is_err_and c.from_residual.result c.from_residual.ensures.1 in
    rw (p.1, p.2) (meet_nothing c.args.further root (g.T.Tree.state c.args.store.now) c.args.place.now over)

pub returns-clause-fair : goal.returns-clause-fair
returns-clause-fair g c = λ r.
    let x = c.args.place.now in
    let v = subst (λ y. IsFairVisit y c.in_ok-visit.visit) c.in_ok-try_clone.ensures c.in_ok-visit.ensures.fair in
    c.in_ok-met_by.ensures.fair v (around_fair x c.still_around-around.result c.in_ok-visit.visit.table c.in_ok-visit.visit.root (subst (IsAroundIf x) (sym c.still_around-around.ensures) r) v.table)

pub returns-clause-told : goal.returns-clause-told
returns-clause-told g c = λ h root over d met behind.
    let x = c.args.place.now in
    let is = subst (λ a. IsMet c.args.further root d a c.args.entry.now x) (sym c.still_around-around.ensures) met in
    let fair = subst (λ y. IsFairVisit y c.in_ok-visit.visit) c.in_ok-try_clone.ensures c.in_ok-visit.ensures.fair in
    let v = (c.in_ok-visit.ensures.told h root over d (subst (λ y. IsMet c.args.further root d c.still_around-around.result c.args.entry.now y) (sym c.in_ok-try_clone.ensures) is) behind).gives in
    let there = subst (λ y. Meets c.args.further root (g.T.Tree.state c.args.store.now) (g.T.Tree.state c.visit_entry.new.store) y) c.in_ok-try_clone.ensures v.0 in
    let visit = subst (λ y. IsVisit c.args.further root y c.in_ok-visit.visit) c.in_ok-try_clone.ensures v.1 in
    (there, c.in_ok-met_by.ensures.told c.args.further root fair visit (table_met c.args.further root d x c.args.entry.now c.still_around-around.result c.in_ok-visit.visit.table c.in_ok-visit.visit.root is visit.table visit.root_inventory))

pub returns-in_err-met_by-clause-told : goal.returns-in_err-met_by-clause-told
returns-in_err-met_by-clause-told g c = λ h root over d met behind.
    let p = err_from_is_err_and c.from_residual-in_err-met_by.result c.from_residual-in_err-met_by.ensures.1 in
    let is = subst (λ a. IsMet c.args.further root d a c.args.entry.now c.args.place.now) (sym c.still_around-around.ensures) met in
    let v = (c.in_ok-visit.ensures.told h root over d (subst (λ y. IsMet c.args.further root d c.still_around-around.result c.args.entry.now y) (sym c.in_ok-try_clone.ensures) is) behind).gives in
    let there = subst (λ y. Meets c.args.further root (g.T.Tree.state c.args.store.now) (g.T.Tree.state c.visit_entry.new.store) y) c.in_ok-try_clone.ensures v.0 in
    rw (p.1, p.2) (meet_out c.args.further root (g.T.Tree.state c.args.store.now) (g.T.Tree.state c.visit_entry.new.store) c.args.place.now there)
