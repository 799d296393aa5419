use Rattle.std.proofs.{Common.{◌∙◌, ap, ◌++◌, codes}, lemmas.Result.{IfOk-weaker}}
use Rattle.ocfl_messages.proofs.closing.had_some.Goals as goal

pub returns : goal.returns
returns c = IfOk-weaker c.format.result _ _ (λ s h. h ∙ ap (λ t. codes ", " ++ t) c.in_ok-runs.ensures) c.format.ensures.ok
