use Rattle.ocfl_compare.proofs.Moves.{same_version}
use Rattle.ocfl_compare.proofs.laws.another_inventory_is_of_a_version.Goals as goal

pub returns-clause-same_version : goal.returns-clause-same_version
returns-clause-same_version c = same_version
