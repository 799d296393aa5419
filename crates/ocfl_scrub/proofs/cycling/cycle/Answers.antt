use Rattle.ocfl_scrub.proofs.cycling.cycle.Goals as goal

pub returns : goal.returns
returns g c = rw c.whole-whole.ensures at c.cycle_part.ensures
