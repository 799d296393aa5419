use Rattle.ocfl_scrub.proofs.CycleRuns.{has_report}
use Rattle.ocfl_laws.proofs.parts.each_run_has_a_report.Goals as goal

pub returns : goal.returns
returns c = has_report
