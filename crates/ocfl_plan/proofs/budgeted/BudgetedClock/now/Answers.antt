use Rattle.ocfl_terms.specs.Clock.{Read}
use Rattle.ocfl_plan.proofs.Budgets.{now_happened, now_spent}
use Rattle.ocfl_plan.proofs.budgeted.BudgetedClock.now.Goals as goal

pub invariant_of-self : goal.invariant_of-self
invariant_of-self g c = record {
  spent_is = λ t. now_spent _ _ (Read c.now.result) c.args.self.now.spent (c.now.ensures.event t) (c.args.self.now.spent_is (c.now.ensures.told t));
}

pub returns-clause-event : goal.returns-clause-event
returns-clause-event g c = λ t. now_happened c.args.self.now.budget _ _ (Read c.now.result) c.args.self.now.spent (c.now.ensures.event t) (c.args.self.now.spent_is (c.now.ensures.told t))
