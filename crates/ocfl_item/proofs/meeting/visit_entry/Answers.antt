use Rattle.std.proofs.Common.{length, drop, rules, subst}
use Rattle.ocfl_item.specs.Around.{IsMet}
use Rattle.ocfl_item.proofs.{VisitLaws.{visits_refused}, VisitPlaces.{entry_met}}
use Rattle.ocfl_item.proofs.VisitInside.{in_content, in_object, in_version, met_within}
use Rattle.ocfl_item.proofs.meeting.visit_entry.Goals as goal

pub returns-in_err-named-in_default-saturating_sub-clause-told :
    goal.returns-in_err-named-in_default-saturating_sub-clause-told
returns-in_err-named-in_default-saturating_sub-clause-told g c = λ h root over d met behind. visits_refused c.args.further root _ _ _ over c.from_residual.ensures.1

pub returns-in_default-clause-told : goal.returns-in_default-clause-told
returns-in_default-clause-told g c = λ h root over d met behind.
    c.visit_by_role.ensures.told h root over (c.role_in_hierarchy-role.ensures c.args.further root d (subst (λ a. IsMet c.args.further root d a c.args.entry.now c.args.place) c.in_default.is met))

pub returns-in-1-clause-told : goal.returns-in-1-clause-told
returns-in-1-clause-told g c = λ h root over d met behind.
    let further = c.args.further in
    let a = c.in-Some.around in
    let m = met_within further root d _ _ a c.args.entry.now c.in-Some.is met in
    let zone = in_object further root d _ a c.args.entry.now m c.saturating_sub.result (search rules) c.in-1.is in
    c.visit_by_role-in-1.ensures.told h root over (c.role_in_object.ensures further root _ (entry_met further root d _ _ c.args.entry.now m) a.place a.table zone m.part.2)

pub returns-in-2-clause-told : goal.returns-in-2-clause-told
returns-in-2-clause-told g c = λ h root over d met behind.
    let further = c.args.further in
    let a = c.in-Some.around in
    let m = met_within further root d _ _ a c.args.entry.now c.in-Some.is met in
    let v = in_version further root d _ a c.args.entry.now m c.saturating_sub.result (search rules) c.in-2.is in
    c.visit_in_version.ensures.told h root over d v.version m v.directory v.zone v.named behind

pub returns-in_ok-named-in_default-saturating_sub-clause-told :
    goal.returns-in_ok-named-in_default-saturating_sub-clause-told
returns-in_ok-named-in_default-saturating_sub-clause-told g c = λ h root over d met behind.
    let further = c.args.further in
    let e = c.args.place in
    let a = c.in-Some.around in
    let m = met_within further root d e _ a c.args.entry.now c.in-Some.is met in
    let k = in_content further root d e a c.args.entry.now m c.saturating_sub.result (search rules) (search rules) (search rules) in
    c.visit_in_content.ensures.told h root over further (entry_met further root d e _ c.args.entry.now m) k.listed a.table (drop (length a.place) e) k.content c.in_ok-named-in_default-saturating_sub.ensures
