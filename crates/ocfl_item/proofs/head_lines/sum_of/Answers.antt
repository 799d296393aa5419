use Rattle.std.proofs.Common.{ap, subst, ◌∙◌}
use Rattle.ocfl_digest.specs.Bounded.{IsBoundedTo}
use Rattle.ocfl_inventory.specs.Sidecar.{sidecar_of}
use Rattle.ocfl_item.proofs.head_lines.sum_of.Goals as goal

pub returns-in-Whole : goal.returns-in-Whole
returns-in-Whole c = λ text h.
    let whole = subst (IsBoundedTo 4096 text) c.in-Whole.is h in
    c.sidecar.ensures ∙ ap (sidecar_of c.args.algorithm) (c.deref.ensures.value ∙ whole.0)
