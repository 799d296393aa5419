use Rattle.std.proofs.Common.{◌≡◌, drop}
use Rattle.ocfl_tree.specs.{Path.{names_of}, StorageRoot.{lookup}}
use Rattle.ocfl_memory.proofs.nodes.position.Given as goal

abbrev pub invariant-loop-i : goal.invariant-loop-i
invariant-loop-i l = lookup l.nodes (names_of l.path) ≡ lookup (drop l.i l.nodes) (names_of l.path)
