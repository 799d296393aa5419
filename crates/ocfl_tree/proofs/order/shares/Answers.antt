use Rattle.std.proofs.Common.{arith}
use Rattle.ocfl_tree.proofs.PathOrders.{same_front}
use Rattle.ocfl_tree.proofs.order.shares.Goals as goal

pub returns-then-count-min-clause-same : goal.returns-then-count-min-clause-same
returns-then-count-min-clause-same c = λ h. same_front c.args.count _ c.args.text.now c.args.other.now c.eq.result (omega arith) (omega arith) (omega arith) c.eq.ensures h
