use Rattle.ocfl_compare.proofs.Moves.{after_of_none, after_of_some}
use Rattle.ocfl_compare.proofs.versions.after_space.Goals as goal

pub returns-in-Some : goal.returns-in-Some
returns-in-Some c = after_of_some c.args.text.now c.split_once.result _ c.in-Some.is c.split_once.ensures.cases

pub returns-in-None : goal.returns-in-None
returns-in-None c = after_of_none c.args.text.now c.split_once.result c.in-None.is c.split_once.ensures.cases
