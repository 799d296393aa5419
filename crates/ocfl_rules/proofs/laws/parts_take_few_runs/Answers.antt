use Rattle.ocfl_rules.proofs.PartLaws.{part_runs_join, part_runs_few}
use Rattle.ocfl_rules.proofs.laws.parts_take_few_runs.Goals as goal

pub returns-clause-whole : goal.returns-clause-whole
returns-clause-whole c = λ further root unread part b n limits some_budget some_files large h. part_runs_join further root unread part b n limits some_budget some_files large h

pub returns-clause-few : goal.returns-clause-few
returns-clause-few c = λ further root unread part b n limits some_budget some_files large. part_runs_few further root unread part b n limits some_budget some_files large
