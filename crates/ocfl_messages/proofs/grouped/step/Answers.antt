use Rattle.std.proofs.{Common.{◌∙◌, append_assoc}, lemmas.Result.{IfOk-weaker}}
use Rattle.ocfl_messages.proofs.grouped.step.Goals as goal

pub returns : goal.returns
returns c = IfOk-weaker c.format.result _ _ (λ s h. h ∙ simp (append_assoc, c.first_step_of-first.ensures)) c.format.ensures.ok
