use Rattle.std.proofs.Common.{sym, ◌∙◌}
use Rattle.ocfl_item.proofs.{VersionReads.{checked_visits}, VisitPlaces.{entry_met}}
use Rattle.ocfl_item.proofs.meeting.visit_in_version.Goals as goal

pub returns-then-is_checked-clause-told : goal.returns-then-is_checked-clause-told
returns-then-is_checked-clause-told g c = λ h root over d v met is z named behind.
    let checked = sym c.is_checked.ensures ∙ c.if-is_checked.true in
    checked_visits c.args.further root d c.args.place v c.args.around.now c.args.entry.now c.args.behind.now _ _ c.visit_inventory.result checked met is z named behind
    (c.visit_inventory.ensures.told h root over)

pub returns-clause-told : goal.returns-clause-told
returns-clause-told g c = λ h root over d v met is z named behind.
    let out = sym c.is_checked.ensures ∙ c.if-is_checked.false in
    c.visit_by_role.ensures.told h root over
    (c.role_in_version-role.ensures c.args.further root _ (entry_met c.args.further root d _ _ c.args.entry.now met) out c.args.around.now.place v z met.part.2 named)
