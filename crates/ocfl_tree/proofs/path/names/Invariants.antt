use Rattle.std.proofs.Common.{◌≡◌, map}
use Rattle.ocfl_tree.proofs.path.names.Given as goal

abbrev pub invariant-loop-name : goal.invariant-loop-name
invariant-loop-name l = l.names.items ≡ map (λ n. n.now) l.yielded
