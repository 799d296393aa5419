use Rattle.ocfl_plan.proofs.Budgets.{unspent}
use Rattle.ocfl_plan.proofs.laws.no_run_begins_once_the_budget_is_spent.Goals as goal

pub returns : goal.returns
returns c = λ budget events before after e. unspent budget 0 events before after e
