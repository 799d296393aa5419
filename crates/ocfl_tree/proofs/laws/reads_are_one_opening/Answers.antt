use Rattle.ocfl_tree.proofs.Reading.{reading_reads, reading_fails}
use Rattle.ocfl_tree.proofs.laws.reads_are_one_opening.Goals as goal

pub returns-clause-read : goal.returns-clause-read
returns-clause-read c = reading_reads

pub returns-clause-failed : goal.returns-clause-failed
returns-clause-failed c = reading_fails
