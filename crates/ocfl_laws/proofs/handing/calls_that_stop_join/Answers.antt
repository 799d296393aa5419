use Rattle.ocfl_laws.proofs.CallsMade.{calls_next, made_few, made_reports, made_whole}
use Rattle.ocfl_laws.proofs.handing.calls_that_stop_join.Goals as goal

pub returns-clause-reports : goal.returns-clause-reports
returns-clause-reports c = made_reports

pub returns-clause-ended : goal.returns-clause-ended
returns-clause-ended c = made_whole

pub returns-clause-few : goal.returns-clause-few
returns-clause-few c = made_few

pub returns-clause-next : goal.returns-clause-next
returns-clause-next c = calls_next
