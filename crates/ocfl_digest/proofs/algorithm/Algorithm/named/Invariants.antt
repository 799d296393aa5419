use Rattle.std.proofs.Common.{◌≡◌, drop}
use Rattle.std.specs.Prelude.{find}
use Rattle.ocfl_tree.specs.Place.{text_eq}
use Rattle.ocfl_digest.specs.Algorithm.{algorithm_name, algorithm_named}
use Rattle.ocfl_digest.proofs.algorithm.Algorithm.named.Given as goal

abbrev pub invariant-loop-algorithm : goal.invariant-loop-algorithm
invariant-loop-algorithm l = find (λ a. text_eq (algorithm_name a) l.name) (drop l.algorithm-index l.algorithm-items) ≡ algorithm_named l.name
