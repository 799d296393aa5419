use Rattle.std.proofs.Common.{◌≡◌, map, take}
use Rattle.ocfl_joining.proofs.facts.places_of.Given as goal

abbrev pub invariant-loop-branch : goal.invariant-loop-branch
invariant-loop-branch l = l.places.items ≡ map (λ x. x.place) (take l.branch-index l.left)
