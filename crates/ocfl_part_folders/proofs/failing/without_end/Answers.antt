use Rattle.ocfl_part_folders.proofs.Ends.{stripped, unstripped}
use Rattle.ocfl_part_folders.proofs.failing.without_end.Goals as goal

pub returns-in-Some : goal.returns-in-Some
returns-in-Some c = λ words e. stripped c.args.line.now words c.strip_suffix.result c.in-Some.words c.in-Some.is c.strip_suffix.ensures.cases e

pub returns-in-None : goal.returns-in-None
returns-in-None c = λ words e. unstripped c.args.line.now words c.strip_suffix.result c.in-None.is c.strip_suffix.ensures.cases e
