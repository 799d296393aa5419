use Rattle.std.proofs.Common.{sym, ◌∙◌}
use Rattle.ocfl_tree.proofs.Paths.{first_of_some, first_of_none}
use Rattle.ocfl_tree.proofs.path.split_first.Goals as goal

pub returns-in-Some : goal.returns-in-Some
returns-in-Some c = first_of_some c.args.path.now c.split_once.result (c.in-Some.name, c.in-Some.rest) c.in-Some.is c.split_once.ensures.cases c.requires

pub returns-in-None : goal.returns-in-None
returns-in-None c = first_of_none c.args.path.now c.split_once.result c.in-None.is c.split_once.ensures.cases (sym c.is_empty.ensures ∙ c.if-is_empty.false)
