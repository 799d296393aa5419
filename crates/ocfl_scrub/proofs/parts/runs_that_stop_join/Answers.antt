use Rattle.ocfl_scrub.proofs.CycleRuns.{reports_and_rest, reports_whole, runs_few}
use Rattle.ocfl_scrub.proofs.parts.runs_that_stop_join.Goals as goal

pub returns-clause-reports : goal.returns-clause-reports
returns-clause-reports c = reports_and_rest

pub returns-clause-ended : goal.returns-clause-ended
returns-clause-ended c = reports_whole

pub returns-clause-few : goal.returns-clause-few
returns-clause-few c = runs_few
