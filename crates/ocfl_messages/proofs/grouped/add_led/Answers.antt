use Rattle.std.proofs.Common.{◌∙◌, ◌++◌, ◌∷◌, [], ap, sym, map}
use Rattle.std.proofs.lemmas.List.{append-nil, map-append}
use Rattle.ocfl_messages.specs.{Finding.{finding_of}, Grouped.{is_with}}
use Rattle.ocfl_messages.proofs.Groups.{any_map, led_none, led_one}
use Rattle.ocfl_messages.proofs.grouped.add_led.Goals as goal

pub returns-in_ok-push : goal.returns-in_ok-push
returns-in_ok-push c =
    let any = any_map (is_with (finding_of c.args.finding.now)) c.args.leads.now ∙ sym c.any_with.ensures ∙ c.if-any_with.true in
    ap (map finding_of) c.in_ok-push.ensures.items ∙ map-append finding_of c.args.led.now.items (c.in_ok-try_clone.field-0 ∷ [])
    ∙ ap (λ f. map finding_of c.args.led.now.items ++ f ∷ []) c.in_ok-try_clone.ensures
    ∙ ap (λ fs. map finding_of c.args.led.now.items ++ fs) (sym (led_one (map finding_of c.args.leads.now) (finding_of c.args.finding.now) any))

pub returns-else-any_with : goal.returns-else-any_with
returns-else-any_with c =
    let any = any_map (is_with (finding_of c.args.finding.now)) c.args.leads.now ∙ sym c.any_with.ensures ∙ c.if-any_with.false in
    sym (ap (λ fs. map finding_of c.args.led.now.items ++ fs) (led_none (map finding_of c.args.leads.now) (finding_of c.args.finding.now) any) ∙ append-nil (map finding_of c.args.led.now.items))
