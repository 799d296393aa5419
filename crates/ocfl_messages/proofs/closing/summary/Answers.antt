use Rattle.std.proofs.{Common.{◌∙◌, append_assoc}, lemmas.Result.{IfOk-weaker}}
use Rattle.ocfl_messages.proofs.closing.summary.Goals as goal

pub returns : goal.returns
returns c = IfOk-weaker c.format.result _ _ (λ s h. h ∙ simp (append_assoc, c.in_ok-counted.ensures, c.in_ok-runs.ensures, c.in_ok-changed.ensures)) c.format.ensures.ok
