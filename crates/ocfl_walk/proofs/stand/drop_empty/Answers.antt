use Rattle.std.proofs.Common.{◌∙◌}
use Rattle.ocfl_walk.proofs.PlacedLaws.{trim_drops_at, trim_keeps_at}
use Rattle.ocfl_walk.proofs.stand.drop_empty.Goals as goal

pub returns-then-not-is_empty : goal.returns-then-not-is_empty
returns-then-not-is_empty c = λ p. trim_keeps_at p c.pop.new.self.items c.loop-listings.listings.items c.push.new.self.items c.in-Some.entries c.is_empty.result
    c.in-Some.ensures.items c.push.ensures.items c.is_empty.ensures c.if-not-is_empty.true ∙ c.loop-listings.invariant p

pub loop-listings-preserved : goal.loop-listings-preserved
loop-listings-preserved c = λ p. trim_drops_at p c.pop.new.self.items c.loop-listings.listings.items c.in-Some.entries c.is_empty.result c.in-Some.ensures.items
    c.is_empty.ensures c.if-not-is_empty.false ∙ c.loop-listings.invariant p
