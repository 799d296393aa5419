use Rattle.ocfl_joining.proofs.Stopping.{result_as}
use Rattle.ocfl_joining.proofs.joining.copy_anew.Goals as goal

pub returns-in-Err-clause-changed : goal.returns-in-Err-clause-changed
returns-in-Err-clause-changed g c = λ t. c.in-Err.ensures.other c.args.separators.now (g.R.PartReports.seen c.args.reports.now)

pub returns-in-Err-clause-part : goal.returns-in-Err-clause-part
returns-in-Err-clause-part g c = c.in-Err.ensures.part c.args.separators.now

pub returns-clause-changed : goal.returns-clause-changed
returns-clause-changed g c = λ t.
    let seen = g.R.PartReports.seen in
    result_as c.args.separators.now (seen c.begin.new.reports) (seen c.args.reports.now) c.copy_all.result (c.begin.ensures.reports t) (c.copy_all.ensures.changed t)
