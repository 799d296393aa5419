use Rattle.std.proofs.{Common.{◌≡◌, ◌++◌, ◌∙◌, ap, append_assoc, codes, decimal}, lemmas.Result.{IfOk-weaker}}
use Rattle.ocfl_tree.specs.Place.{Text}
use Rattle.ocfl_messages.specs.{Closing.{list_command}, Command.{over_text}}
use Rattle.ocfl_messages.proofs.closing.some_root_inventories.Goals as goal

nine : (a b c d e f g h i : Text) → a ++ (b ++ (c ++ (d ++ (e ++ (f ++ (g ++ (h ++ i))))))) ≡ a ++ b ++ c ++ d ++ e ++ f ++ g ++ h ++ i
nine a b c d e f g h i = simp append_assoc

pub returns : goal.returns
returns c = IfOk-weaker c.format.result _ _ (λ s h.
    let m = c.args.moved in
    let listed = c.in_ok-listed.ensures ∙ ap (λ t. over_text t c.args.list.now) c.list_command.ensures in
    h ∙ ap (λ t. codes "Root inventories: " ++ (decimal m.rewritten ++ (codes " changed without a new version, " ++ (decimal m.went_back ++ (codes " went back, "
    ++ (decimal m.newer ++ (codes " of a new version: " ++ (t ++ codes "\n")))))))) listed
    ∙ nine (codes "Root inventories: ") (decimal m.rewritten) (codes " changed without a new version, ") (decimal m.went_back) (codes " went back, ") (decimal m.newer)
    (codes " of a new version: ") (over_text list_command c.args.list.now) (codes "\n")) c.format.ensures.ok
