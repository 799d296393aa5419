use Rattle.ocfl_plan.specs.Stopping.{Ran}
use Rattle.ocfl_plan.proofs.Answered.{told_more}
use Rattle.ocfl_plan.proofs.stopping.StopFileClock.hears.Goals as goal

pub returns-clause-event : goal.returns-clause-event
returns-clause-event g c = λ t. told_more _ _ (Ran c.args.made.now) (c.hears.ensures.answer t)
