use Rattle.std.proofs.{Common.{◌∙◌, append_assoc}, lemmas.Result.{IfOk-weaker}}
use Rattle.ocfl_terminal.proofs.naming.with_name.Goals as goal

pub returns-in-Some : goal.returns-in-Some
returns-in-Some c = rw c.in-Some.is (IfOk-weaker c.format.result _ _ (λ s h. h ∙ simp append_assoc) c.format.ensures.ok)
