use Rattle.std.proofs.Common.{◌∙◌, sym}
use Rattle.ocfl_tree.proofs.Places.{path_eq-Decides}
use Rattle.ocfl_night.proofs.owning.is_same_place.Goals as goal

pub returns : goal.returns
returns c =
    let decides = path_eq-Decides c.args.place.now c.args.other.now in
    (λ t. decides.0 (sym c.eq.ensures ∙ t), λ h. c.eq.ensures ∙ decides.1 h)
