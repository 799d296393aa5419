use Rattle.std.proofs.Common.{subst}
use Rattle.ocfl_item.specs.Internal.Visiting.{HasRole}
use Rattle.ocfl_item.proofs.VisitLaws.{nothing_visits, shut_visits, visits_refused}
use Rattle.ocfl_item.proofs.visit.visit_by_role.Goals as goal

pub returns-in-LeftAlone-clause-told : goal.returns-in-LeftAlone-clause-told
returns-in-LeftAlone-clause-told g c = λ h root over role.
    let r = subst (HasRole c.args.further root c.args.place) c.in-LeftAlone.is role in
    nothing_visits c.args.further root _ _ over r.1 c.of_item.result r.0 c.of_item.ensures.item c.of_item.ensures.folder c.of_item.ensures.table

pub returns-in_ok-visit_plain-in-Plain-clause-told : goal.returns-in_ok-visit_plain-in-Plain-clause-told
returns-in_ok-visit_plain-in-Plain-clause-told g c = λ h root over role.
    let r = subst (HasRole c.args.further root c.args.place) c.in-Plain.is role in
    shut_visits c.args.further root _ _ over r.1 _ (c.in_ok-visit_plain-in-Plain.ensures.told c.args.further root r.0)

pub returns-in_err-visit_plain-in-Plain-clause-told : goal.returns-in_err-visit_plain-in-Plain-clause-told
returns-in_err-visit_plain-in-Plain-clause-told g c = λ h root over role. visits_refused c.args.further root _ _ _ over c.from_residual.ensures.1

pub returns-in-Listed-clause-told : goal.returns-in-Listed-clause-told
returns-in-Listed-clause-told g c = λ h root over role.
    let r = subst (HasRole c.args.further root c.args.place) c.in-Listed.is role in
    c.visit_listed.ensures.told h root over c.args.further r.0 r.1

pub returns-in-Directory-clause-told : goal.returns-in-Directory-clause-told
returns-in-Directory-clause-told g c = λ h root over role.
    c.visit_directory.ensures.told h root over (subst (HasRole c.args.further root c.args.place) c.in-Directory.is role)
