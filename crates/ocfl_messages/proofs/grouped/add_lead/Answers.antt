use Rattle.std.proofs.Common.{◌∙◌, ◌++◌, ◌∷◌, [], ap, sym, map}
use Rattle.std.proofs.lemmas.List.{map-append}
use Rattle.ocfl_messages.specs.{Finding.{finding_of}, Grouped.{is_with}}
use Rattle.ocfl_messages.proofs.Groups.{any_map, lead_new, lead_seen}
use Rattle.ocfl_messages.proofs.grouped.add_lead.Goals as goal

pub returns-then-any_with : goal.returns-then-any_with
returns-then-any_with c =
    let any = any_map (is_with (finding_of c.args.finding.now)) c.args.leads.now.items ∙ sym (rw c.as_slice.ensures.value at c.any_with.ensures) ∙ c.if-any_with.true in
    sym (lead_seen (map finding_of c.args.leads.now.items) (finding_of c.args.finding.now) any)

pub returns : goal.returns
returns c =
    let any = any_map (is_with (finding_of c.args.finding.now)) c.args.leads.now.items ∙ sym (rw c.as_slice.ensures.value at c.any_with.ensures) ∙ c.if-any_with.false in
    ap (map finding_of) c.in_ok-push.ensures.items ∙ map-append finding_of c.args.leads.now.items (c.in_ok-try_clone.field-0 ∷ [])
    ∙ ap (λ f. map finding_of c.args.leads.now.items ++ f ∷ []) c.in_ok-try_clone.ensures
    ∙ sym (lead_new (map finding_of c.args.leads.now.items) (finding_of c.args.finding.now) any)
