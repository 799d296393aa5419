use Rattle.std.proofs.Common.{◌≡◌, take}
use Rattle.ocfl_inventory.proofs.sorting.count_shared.Given as goal

abbrev pub invariant-loop-index : goal.invariant-loop-index
invariant-loop-index l = take l.index l.text ≡ take l.index l.other
