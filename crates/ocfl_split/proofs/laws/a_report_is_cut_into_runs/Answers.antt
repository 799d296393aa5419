use Rattle.ocfl_split.proofs.ReportedRuns.{parts_are_runs, runs_pass_just}
use Rattle.ocfl_split.proofs.laws.a_report_is_cut_into_runs.Goals as goal

pub returns-clause-parts : goal.returns-clause-parts
returns-clause-parts c = parts_are_runs

pub returns-clause-costs : goal.returns-clause-costs
returns-clause-costs c = runs_pass_just
