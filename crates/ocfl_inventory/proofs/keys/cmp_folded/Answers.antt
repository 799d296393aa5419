use Rattle.std.proofs.Common.{sym, ◌∙◌}
use Rattle.ocfl_inventory.proofs.FoldedTexts.{folded_done}
use Rattle.ocfl_inventory.proofs.keys.cmp_folded.Goals as goal

pub returns : goal.returns
returns c = c.cmp-2.ensures ∙ sym
    (folded_done c.args.text.now c.args.other.now c.loop-index.index c.min-shared.result c.min-shared.ensures c.loop-index.auto.index-end c.loop-index-test.false) ∙ c.loop-index.invariant
