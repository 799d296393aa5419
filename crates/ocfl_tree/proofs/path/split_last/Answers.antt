use Rattle.std.proofs.Common.{sym, ◌∙◌}
use Rattle.ocfl_tree.proofs.Paths.{last_of_some, last_of_none}
use Rattle.ocfl_tree.proofs.path.split_last.Goals as goal

pub returns-in-Some : goal.returns-in-Some
returns-in-Some c = last_of_some c.args.path.now c.rsplit_once.result (c.in-Some.parent, c.in-Some.name) c.in-Some.is c.rsplit_once.ensures.cases c.requires

pub returns-in-None : goal.returns-in-None
returns-in-None c = last_of_none c.args.path.now c.rsplit_once.result c.in-None.is c.rsplit_once.ensures.cases (sym c.is_empty.ensures ∙ c.if-is_empty.false) c.requires
