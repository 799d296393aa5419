use Rattle.std.proofs.Common.{◌∙◌, sym, ap}
use Rattle.ocfl_tree.specs.Place.{text_eq}
use Rattle.ocfl_digest.proofs.Names.{find_past}
use Rattle.ocfl_digest.proofs.algorithm.Algorithm.named.Goals as goal

pub loop-algorithm-preserved : goal.loop-algorithm-preserved
loop-algorithm-preserved c = find_past _ _ _ _ c.loop-algorithm-test.true
    (ap (λ t. text_eq t c.args.name.now) (sym c.name.ensures) ∙ sym c.is_text.ensures ∙ c.if-is_text.false) ∙ c.loop-algorithm.invariant
