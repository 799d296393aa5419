use Rattle.std.proofs.Common.{Some, None}
use Rattle.ocfl_walk.proofs.PlacedLaws.{next_at}
use Rattle.ocfl_walk.proofs.stand.next_listed.Goals as goal

pub returns-in_default-last : goal.returns-in_default-last
returns-in_default-last c = λ p. next_at p c.args.listings.now.items c.in-Some.above.now c.as_slice.result.now c.in-Some.entries.now c.deref.result.now None
    c.as_slice.ensures.value c.in-Some.ensures.cases.0 c.deref.ensures.value c.in_default-last.ensures.value

pub returns : goal.returns
returns c = λ p. next_at p c.args.listings.now.items c.in-Some.above.now c.as_slice.result.now c.in-Some.entries.now c.deref.result.now
    (Some c.in-Some-last.entry.now) c.as_slice.ensures.value c.in-Some.ensures.cases.0 c.deref.ensures.value c.in-Some-last.ensures.value
