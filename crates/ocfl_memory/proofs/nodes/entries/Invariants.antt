use Rattle.std.proofs.Common.{◌≡◌, ◌++◌, drop}
use Rattle.ocfl_tree.specs.Path.{names_of}
use Rattle.ocfl_memory.specs.Internal.Nodes.{kept_in}
use Rattle.ocfl_memory.proofs.nodes.entries.Given as goal

abbrev pub invariant-loop-place : goal.invariant-loop-place
invariant-loop-place l = l.entries.items ++ kept_in (drop l.place-index l.nodes) (names_of l.dir) ≡ kept_in l.nodes (names_of l.dir)
