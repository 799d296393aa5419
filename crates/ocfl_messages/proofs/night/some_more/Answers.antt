use Rattle.std.proofs.{Common.{◌≡◌, ◌++◌, ◌∙◌, ap, append_assoc, codes, decimal}, lemmas.Result.{IfOk-weaker}}
use Rattle.ocfl_tree.specs.Place.{Text}
use Rattle.ocfl_messages.specs.Command.{over_text}
use Rattle.ocfl_messages.proofs.night.some_more.Goals as goal

four : (a b c d : Text) → a ++ (b ++ (c ++ d)) ≡ a ++ b ++ c ++ d
four a b c d = simp append_assoc

pub returns : goal.returns
returns c = IfOk-weaker c.format.result _ _ (λ s h.
    h ∙ ap (λ t. decimal c.args.left ++ (codes " not shown here: " ++ (t ++ codes "\n"))) c.in_ok-over.ensures
    ∙ four (decimal c.args.left) (codes " not shown here: ") (over_text c.args.command.now c.args.file.now) (codes "\n")) c.format.ensures.ok
