use Rattle.ocfl_laws.proofs.JoinLaws.{part_runs}
use Rattle.ocfl_laws.proofs.parts.runs_of_a_part_join.Goals as goal

pub returns-clause-few : goal.returns-clause-few
returns-clause-few c = λ further root part from runs fresh are b n some_budget some_files large. part_runs further root part from runs fresh are b n some_budget some_files large
