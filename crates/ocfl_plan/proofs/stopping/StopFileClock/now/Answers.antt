use Rattle.ocfl_plan.proofs.Answered.{read_more}
use Rattle.ocfl_plan.proofs.stopping.StopFileClock.now.Goals as goal

pub returns-clause-event : goal.returns-clause-event
returns-clause-event g c = λ t. read_more _ _ c.seconds.result c.unwrap_or.result (c.seconds.ensures.answer t) c.unwrap_or.ensures
