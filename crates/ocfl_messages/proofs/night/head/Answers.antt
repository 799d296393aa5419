use Rattle.std.proofs.{Common.{◌∙◌, append_assoc}, lemmas.Result.{IfOk-weaker}}
use Rattle.ocfl_messages.proofs.night.head.Goals as goal

pub returns : goal.returns
returns c = IfOk-weaker c.format.result _ _ (λ s h. h ∙ simp (append_assoc, c.in_ok-whose.ensures, c.in_ok-runs.ensures, c.in_ok-found.ensures)) c.format.ensures.ok
