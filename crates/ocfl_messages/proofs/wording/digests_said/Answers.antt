use Rattle.std.proofs.{Common.{◌∙◌, append_assoc}, lemmas.Result.{IfOk-weaker}}
use Rattle.ocfl_messages.proofs.wording.digests_said.Goals as goal

pub returns : goal.returns
returns c = IfOk-weaker c.format.result _ _ (λ s h. h ∙ simp (append_assoc, c.in_ok-name.ensures, c.in_ok-expected.ensures, c.in_ok-found.ensures)) c.format.ensures.ok
