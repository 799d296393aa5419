use Rattle.std.proofs.Common.{◌∙◌}
use Rattle.ocfl_terms.specs.Clock.{Heard}
use Rattle.ocfl_plan.proofs.Budgets.{now_happened, now_spent}
use Rattle.ocfl_plan.proofs.budgeted.BudgetedClock.hears.Goals as goal

pub invariant_of-self : goal.invariant_of-self
invariant_of-self g c = record {
  spent_is = λ t. c.counted-self.ensures ∙ now_spent _ _ (Heard c.args.made.now) c.args.self.now.spent (c.hears.ensures.event t) (c.args.self.now.spent_is (c.hears.ensures.told t));
}

pub returns-clause-event : goal.returns-clause-event
returns-clause-event g c = λ t. now_happened c.args.self.now.budget _ _ (Heard c.args.made.now) c.args.self.now.spent (c.hears.ensures.event t) (c.args.self.now.spent_is (c.hears.ensures.told t))
