use Rattle.std.proofs.{Common.{◌∙◌, ◌++◌, ap, append_assoc}, lemmas.Result.{on_ok_weaker}}
use Rattle.ocfl_messages.specs.{Finding.{finding_of}, Grouped.{others_text, respelt_said}}
use Rattle.ocfl_messages.proofs.Made.{made_text}
use Rattle.ocfl_messages.proofs.grouped.put_brief_respelt.Goals as goal

pub returns : goal.returns
returns c = on_ok_weaker c.put_made.result (λ put.
    made_text c.others.result _ _ _ c.others.ensures put ∙ ap (λ t. t ++ others_text c.saturating_sub.result) c.in_ok-put_respelt_said.ensures
    ∙ append_assoc c.args.text.now.items (respelt_said (finding_of c.args.finding.now)) (others_text c.saturating_sub.result)
    ∙ ap (λ n. c.args.text.now.items ++ (respelt_said (finding_of c.args.finding.now) ++ others_text n)) c.saturating_sub.ensures) c.put_made.ensures
