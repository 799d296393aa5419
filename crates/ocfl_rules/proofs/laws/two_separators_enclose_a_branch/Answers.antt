use Rattle.ocfl_rules.proofs.BranchLaws.{end_is_name}
use Rattle.ocfl_rules.proofs.laws.two_separators_enclose_a_branch.Goals as goal

pub returns-clause-name : goal.returns-clause-name
returns-clause-name c = end_is_name
