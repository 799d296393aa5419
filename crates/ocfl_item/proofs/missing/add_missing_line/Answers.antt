use Rattle.std.proofs.Common.{◌∷◌, ◌++◌, [], OnOk, codes, ◌∙◌, ap, subst}
use Rattle.ocfl_inventory.specs.Note.{note}
use Rattle.ocfl_item.specs.Internal.Lines.{Adds}
use Rattle.ocfl_item.proofs.missing.add_missing_line.Goals as goal

pub returns : goal.returns
returns c =
    let detail = c.in_ok-detail.ensures.ok ∙ ap (λ name. name ++ codes " missing") c.name.ensures in
    subst (λ n. OnOk c.add.result (Adds c.args.lines.now c.add.new.self (n ∷ []))) (λ i. note (c.code_of.ensures i) (detail i)) c.add.ensures
