use Rattle.std.proofs.Common.{[]}
use Rattle.ocfl_night.proofs.checkpoint.no_report.Goals as goal

pub returns : goal.returns
returns c = c.summary.ensures [] c.new-digests.ensures
