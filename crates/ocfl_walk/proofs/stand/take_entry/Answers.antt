use Rattle.ocfl_walk.proofs.PlacedLaws.{same_count, taken_here}
use Rattle.ocfl_walk.proofs.stand.take_entry.Goals as goal

pub returns-clause-taken : goal.returns-clause-taken
returns-clause-taken c = λ p. taken_here p c.pop.new.self.items c.args.listings.now.items c.push.new.self.items c.in_ok-entries.entries _ c.pop-entry.result
    c.in_ok-entries.ensures.items c.push.ensures.items c.pop-entry.ensures.items c.pop-entry.ensures.cases

pub returns-clause-count : goal.returns-clause-count
returns-clause-count c = same_count c.pop.new.self.items c.args.listings.now.items c.push.new.self.items c.in_ok-entries.entries _ c.in_ok-entries.ensures.items c.push.ensures.items
