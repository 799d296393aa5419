use Rattle.std.proofs.Common.{arith}
use Rattle.ocfl_walk.proofs.PlacedLaws.{begins_here, begins_later}
use Rattle.ocfl_walk.proofs.stand.drop_before.Goals as goal

pub returns-then-len-names : goal.returns-then-len-names
returns-then-len-names c = λ p. begins_later p c.args.listings.now.items c.args.names c.args.name.now (omega (arith, c.len.ensures.value, c.if-len-names.true))

pub returns : goal.returns
returns c = λ p. begins_here p c.pop.new.self.items c.args.listings.now.items c.push.new.self.items c.in-Some.entries c.keep_from.new.entries c.args.names
    c.args.name.now c.in-Some.ensures.items c.push.ensures.items (omega (arith, c.len.ensures.value, c.if-len-names.false)) c.keep_from.ensures
