use Rattle.ocfl_closed.proofs.Partings.{passed_over}
use Rattle.ocfl_closed.proofs.apart.without.Goals as goal

pub loop-place-preserved-in-Some-after : goal.loop-place-preserved-in-Some-after
loop-place-preserved-in-Some-after c =
    passed_over c.args.places.items c.args.others.now c.loop-place.yielded c.loop-place.place-iterator.rest.items c.next.new.self.rest.items c.loop-place.rest.items c.loop-place.others.now c.in-Some-after.more.now c.in-Some.place
    c.in-Some.ensures.steps.0 c.in-Some-after.ensures.some c.loop-place.invariant
