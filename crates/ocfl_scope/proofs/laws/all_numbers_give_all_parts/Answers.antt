use Rattle.ocfl_scope.proofs.NumberedLaws.{all_parts}
use Rattle.ocfl_scope.proofs.laws.all_numbers_give_all_parts.Goals as goal

pub returns : goal.returns
returns c = all_parts
