use Rattle.std.proofs.Common.{◌≡◌, ◌++◌, take}
use Rattle.ocfl_closed.proofs.finding.put_places.Given as goal

abbrev pub invariant-loop-place : goal.invariant-loop-place
invariant-loop-place l = l.copy.items ≡ l.fn.copy.items ++ take l.place-index l.places
