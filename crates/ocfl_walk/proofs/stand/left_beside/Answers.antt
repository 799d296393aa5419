use Rattle.ocfl_walk.proofs.PlacedLaws.{top_at}
use Rattle.ocfl_walk.proofs.stand.left_beside.Goals as goal

pub returns-in-Some : goal.returns-in-Some
returns-in-Some c = λ p. top_at p c.args.listings.now.items c.as_slice.result.now c.in-Some.entries.now c.deref.result.now c.as_slice.ensures.value c.in-Some.ensures.value c.deref.ensures.value
