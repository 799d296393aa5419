use Rattle.ocfl_inventory.proofs.Inventories.{conflicting}
use Rattle.ocfl_inventory.proofs.conflicts.conflicts.Goals as goal

pub returns : goal.returns
returns c = conflicting c.args.triples.now c.in_ok-found.found.items c.dedup.new.self.items c.requires c.in_ok-found.ensures c.dedup.ensures.filtered
