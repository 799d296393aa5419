use Rattle.std.proofs.Common.{◌≡◌, map, take}
use Rattle.ocfl_kept.proofs.kept.places_of.Given as goal

abbrev pub invariant-loop-branch : goal.invariant-loop-branch
invariant-loop-branch l = l.places.items ≡ map (λ branch. branch.place) (take l.branch-index l.left)
