use Rattle.std.proofs.Common.{◌≡◌, ◌≤◌, length, take}
use Rattle.ocfl_folder.proofs.going.shared.Given as goal

abbrev pub invariant-loop-i : goal.invariant-loop-i
invariant-loop-i l = (l.i ≤ length l.others) × (take l.i l.names ≡ take l.i l.others)
