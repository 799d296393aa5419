use Rattle.ocfl_rules.proofs.LookLaws.{looked_is}
use Rattle.ocfl_rules.proofs.laws.directories_looked_into_are_exact.Goals as goal

pub returns : goal.returns
returns c root d = looked_is root d
