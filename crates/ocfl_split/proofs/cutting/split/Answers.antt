use Rattle.std.proofs.Common.{◌∙◌, ap}
use Rattle.ocfl_split.specs.Splitting.{cut_evenly}
use Rattle.ocfl_split.proofs.cutting.split.Goals as goal

pub returns-clause-told : goal.returns-clause-told
returns-clause-told g c = λ h root over.
    let k = c.in_ok-level.ensures.told h root over in
    (c.in_ok-cut.ensures.cut ∙ ap (cut_evenly c.args.count) (c.deref.ensures.value ∙ k.0), k.1)
