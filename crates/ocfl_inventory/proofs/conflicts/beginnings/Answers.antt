use Rattle.ocfl_tree.specs.Place.{begins}
use Rattle.ocfl_inventory.proofs.SeenRuns.{seen_done}
use Rattle.ocfl_inventory.proofs.conflicts.beginnings.Goals as goal

pub returns : goal.returns
returns c = seen_done (λ e. e.path) begins c.args.triples.now c.loop-i.i c.loop-i.found.items _ c.loop-i-test.false c.loop-i.invariant
