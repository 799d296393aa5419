use Rattle.ocfl_scope.proofs.NumberedLaws.{part_not_refused}
use Rattle.ocfl_scope.proofs.laws.no_part_that_is_there_is_refused.Goals as goal

pub returns : goal.returns
returns c = part_not_refused
