use Rattle.std.proofs.Common.{◌≡◌, take}
use Rattle.ocfl_mem_clock.proofs.copying.copy_left.Given as goal

abbrev pub invariant-loop-branch : goal.invariant-loop-branch
invariant-loop-branch l = l.copy.items ≡ take l.branch-index l.left
