use Rattle.std.proofs.Common.{◌≡◌, take}
use Rattle.ocfl_state.proofs.held.copy_closed.Given as goal

abbrev pub invariant-loop-one : goal.invariant-loop-one
invariant-loop-one l = l.copies.items ≡ take l.one-index l.closed
