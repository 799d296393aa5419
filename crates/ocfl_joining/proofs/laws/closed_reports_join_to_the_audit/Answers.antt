use Rattle.ocfl_joining.proofs.ClosedLaws.{closed_join}
use Rattle.ocfl_joining.proofs.laws.closed_reports_join_to_the_audit.Goals as goal

pub returns : goal.returns
returns c = closed_join
