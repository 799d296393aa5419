use Rattle.std.proofs.Common.{sym, ap, ◌∙◌}
use Rattle.ocfl_memory.specs.MemTree.{parent}
use Rattle.ocfl_memory.proofs.Trees.{parent-append}
use Rattle.ocfl_memory.proofs.nodes.parent.Goals as goal

pub returns-in-Some : goal.returns-in-Some
returns-in-Some c = sym (ap parent c.in-Some.ensures.0 ∙ parent-append _ _)
