use Rattle.ocfl_terms.specs.Clock.{Asked}
use Rattle.ocfl_plan.proofs.Budgets.{now_spent, spent_so, stops_so}
use Rattle.ocfl_plan.proofs.budgeted.BudgetedClock.is_stopped.Goals as goal

pub invariant_of-self : goal.invariant_of-self
invariant_of-self g c = record {
  spent_is = λ t. now_spent _ _ (Asked c.is_stopped-stops.result) c.args.self.now.spent (c.is_stopped-stops.ensures.event t) (c.args.self.now.spent_is (c.is_stopped-stops.ensures.told t));
}

pub returns-then-stops-clause-event : goal.returns-then-stops-clause-event
returns-then-stops-clause-event g c = λ t. stops_so c.args.self.now.budget _ _ _ c.args.self.now.spent c.if-stops.true (c.is_stopped-stops.ensures.event t) (c.args.self.now.spent_is (c.is_stopped-stops.ensures.told t))

pub returns-else-stops-clause-event : goal.returns-else-stops-clause-event
returns-else-stops-clause-event g c = λ t. spent_so c.args.self.now.budget _ _ _ _ c.args.self.now.spent c.if-stops.false c.is_spent.ensures (c.is_stopped-stops.ensures.event t) (c.args.self.now.spent_is (c.is_stopped-stops.ensures.told t))
