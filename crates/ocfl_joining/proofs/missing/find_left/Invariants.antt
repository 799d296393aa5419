use Rattle.std.proofs.Common.{◌≡◌, take}
use Rattle.ocfl_joining.specs.Missing.{left_of}
use Rattle.ocfl_joining.proofs.missing.find_left.Given as goal

abbrev pub invariant-loop-part : goal.invariant-loop-part
invariant-loop-part l = l.left.items ≡ left_of (take l.part-index l.parts)
