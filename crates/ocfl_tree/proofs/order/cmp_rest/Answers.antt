use Rattle.std.proofs.Common.{sym, ◌∙◌}
use Rattle.ocfl_tree.proofs.PathOrders.{shared_done}
use Rattle.ocfl_tree.proofs.order.cmp_rest.Goals as goal

pub returns : goal.returns
returns c = c.cmp.ensures ∙ sym
    (shared_done c.args.text.now c.args.other.now c.loop-index.index c.min-shared.result c.min-shared.ensures c.loop-index.auto.index-end c.loop-index-test.false) ∙ c.loop-index.invariant
