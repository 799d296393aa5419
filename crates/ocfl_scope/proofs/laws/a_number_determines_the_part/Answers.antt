use Rattle.ocfl_scope.proofs.NumberedLaws.{part_determined}
use Rattle.ocfl_scope.proofs.laws.a_number_determines_the_part.Goals as goal

pub returns : goal.returns
returns c = part_determined
