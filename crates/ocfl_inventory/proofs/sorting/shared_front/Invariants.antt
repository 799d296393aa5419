use Rattle.std.proofs.Common.{take}
use Rattle.std.specs.Prelude.{All}
use Rattle.ocfl_inventory.specs.Internal.SharedFront.{IsBelow}
use Rattle.ocfl_inventory.proofs.sorting.shared_front.Given as goal

abbrev pub invariant-loop-triple : goal.invariant-loop-triple
invariant-loop-triple l = All (IsBelow l.shared) (take l.triple-index l.triples)
