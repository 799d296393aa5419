use Rattle.std.proofs.Common.{◌≡◌}
use Rattle.std.specs.Prelude.{flat_map}
use Rattle.ocfl_joining.specs.Missing.{missing_at, numbers}
use Rattle.ocfl_joining.proofs.missing.find_missing.Given as goal

abbrev pub invariant-loop-index : goal.invariant-loop-index
invariant-loop-index l = l.missing.items ≡ flat_map (missing_at l.separators l.root l.cycle l.parts) (numbers l.index)
