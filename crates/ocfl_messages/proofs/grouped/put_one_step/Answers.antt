use Rattle.std.proofs.{Common.{◌∙◌, ap, sym, ◌++◌, map}, lemmas.List.{append-nil}, lemmas.Result.{on_ok_weaker}}
use Rattle.ocfl_messages.specs.{Finding.{finding_of}, Grouped.{says_step}}
use Rattle.ocfl_messages.proofs.{Groups.{any_map, step_new, step_seen}, Made.{made_text}}
use Rattle.ocfl_messages.proofs.grouped.put_one_step.Goals as goal

pub returns-then-any_step : goal.returns-then-any_step
returns-then-any_step c =
    let any = any_map (says_step (map finding_of c.args.alone.now) (finding_of c.args.finding.now)) c.args.before.now ∙ sym c.any_step.ensures ∙ c.if-any_step.true in
    sym (ap (λ t. c.args.text.now.items ++ t) (step_seen (map finding_of c.args.alone.now) (map finding_of c.args.before.now) (finding_of c.args.finding.now) any) ∙ append-nil c.args.text.now.items)

pub returns : goal.returns
returns c = on_ok_weaker c.put_made.result (λ put.
    let any = any_map (says_step (map finding_of c.args.alone.now) (finding_of c.args.finding.now)) c.args.before.now ∙ sym c.any_step.ensures ∙ c.if-any_step.false in
    made_text c.step.result _ _ _ c.step.ensures put ∙ ap (λ t. c.args.text.now.items ++ t) (sym (step_new (map finding_of c.args.alone.now) (map finding_of c.args.before.now) (finding_of c.args.finding.now) any))) c.put_made.ensures
