use Rattle.ocfl_rules.proofs.RunLaws.{large_whole, large_few}
use Rattle.ocfl_rules.proofs.laws.large_limits_are_few.Goals as goal

pub returns-clause-whole : goal.returns-clause-whole
returns-clause-whole c = λ b n limits items some_budget some_files large h. large_whole b n some_budget some_files limits items large h

pub returns-clause-few : goal.returns-clause-few
returns-clause-few c = λ b n limits items some_budget some_files large. large_few b n some_budget some_files limits items large
