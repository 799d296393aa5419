use Rattle.std.proofs.Common.{◌≡◌, length}
use Rattle.ocfl_tree.specs.Path.{path_cmp}
use Rattle.ocfl_tree.proofs.order.past_shared.Given as goal

abbrev pub invariant-loop-rest : goal.invariant-loop-rest
invariant-loop-rest l = path_cmp l.rest l.other_rest ≡ path_cmp l.fn.text l.fn.other

abbrev pub decreases-loop-rest : goal.decreases-loop-rest
decreases-loop-rest l = length l.rest
