use Rattle.std.proofs.Common.{◌≡◌, ◌+◌, ◌≤◌, drop, length}
use Rattle.ocfl_tree.specs.Path.{names_of}
use Rattle.ocfl_memory.specs.Internal.Nodes.{kept_in}
use Rattle.ocfl_memory.proofs.nodes.count.Given as goal

abbrev pub invariant-loop-place : goal.invariant-loop-place
invariant-loop-place l = record {
  counted : l.count + length (kept_in (drop l.place-index l.nodes) (names_of l.dir)) ≡ length (kept_in l.nodes (names_of l.dir));
  small : l.count ≤ l.place-index;
}
