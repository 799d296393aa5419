use Rattle.ocfl_closed.proofs.Partings.{AreApart}
use Rattle.ocfl_closed.proofs.apart.without.Given as goal

abbrev pub invariant-loop-place : goal.invariant-loop-place
invariant-loop-place l = AreApart l.fn.places.items l.fn.others l.yielded l.place-iterator.rest.items l.rest.items l.others
