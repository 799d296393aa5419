use Rattle.std.proofs.Common.{◌≡◌, take}
use Rattle.ocfl_joining.specs.Within.{places_within}
use Rattle.ocfl_joining.proofs.within.find_within.Given as goal

abbrev pub invariant-loop-place : goal.invariant-loop-place
invariant-loop-place l = l.found.items ≡ places_within l.from l.below (take l.place-index l.places)
