use Rattle.std.proofs.Common.{◌≡◌, take}
use Rattle.ocfl_joining.specs.Missing.{most_names}
use Rattle.ocfl_joining.proofs.missing.find_most_names.Given as goal

abbrev pub invariant-loop-part : goal.invariant-loop-part
invariant-loop-part l = l.most ≡ most_names (take l.part-index l.parts)
