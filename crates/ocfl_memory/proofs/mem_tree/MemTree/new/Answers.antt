use Rattle.ocfl_memory.proofs.Changes.{kept_none}
use Rattle.ocfl_memory.proofs.mem_tree.MemTree.new.Goals as goal

pub invariant_of-result : goal.invariant_of-result
invariant_of-result c = rw c.new.ensures.items (kept_none _)
