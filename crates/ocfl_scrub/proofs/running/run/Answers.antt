use Rattle.ocfl_scrub.proofs.running.run.Goals as goal

pub returns : goal.returns
returns g c = rw c.whole-whole.ensures at c.run_part.ensures
