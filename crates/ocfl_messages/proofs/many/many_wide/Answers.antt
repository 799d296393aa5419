use Rattle.std.proofs.{Common.{◌∙◌, ap, ◌++◌, codes, decimal, append_assoc}, lemmas.Result.{IfOk-weaker}}
use Rattle.ocfl_messages.proofs.many.many_wide.Goals as goal

pub returns : goal.returns
returns c = IfOk-weaker c.format.result _ _ (λ s h. h ∙ ap (λ t. decimal c.args.count ++ (codes " " ++ t)) c.word_for-word.ensures ∙ simp append_assoc) c.format.ensures.ok
