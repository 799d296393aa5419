use Rattle.std.proofs.{Common.{◌≡◌, ◌++◌, ◌∙◌, ap, append_assoc, codes}, lemmas.Result.{IfOk-weaker}}
use Rattle.ocfl_tree.specs.Place.{Text}
use Rattle.ocfl_messages.specs.Quoted.{quoted}
use Rattle.ocfl_messages.proofs.command.check.Goals as goal

five : (a b c d e : Text) → a ++ (b ++ (c ++ (d ++ e))) ≡ a ++ b ++ c ++ d ++ e
five a b c d e = simp append_assoc

pub returns : goal.returns
returns c =
    let root = quoted c.args.root.now in
    let path = quoted c.args.path.now in
    IfOk-weaker c.format.result _ _ (λ s h.
    h ∙ ap (λ d. codes "ocfl-scrub check " ++ (d ++ (root ++ (codes " " ++ path)))) c.dashes-dashes.ensures
    ∙ five (codes "ocfl-scrub check ") _ root (codes " ") path) c.format.ensures.ok
