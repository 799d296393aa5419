use Rattle.ocfl_plan.specs.Stopping.{HasStop}
use Rattle.ocfl_plan.proofs.Answered.{told_more}
use Rattle.ocfl_plan.proofs.stopping.StopFileClock.is_stopped.Goals as goal

pub returns-clause-event : goal.returns-clause-event
returns-clause-event g c = λ t. told_more _ _ (HasStop c.has_stop.result) (c.has_stop.ensures.answer t)
