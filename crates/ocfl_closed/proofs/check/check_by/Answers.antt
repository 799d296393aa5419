use Rattle.ocfl_closed.proofs.Reading.{checked_by}
use Rattle.ocfl_closed.proofs.check.check_by.Goals as goal

pub returns-clause-met : goal.returns-clause-met
returns-clause-met c = checked_by c.args.bytes.now c.in_ok-kept.kept c.by.result c.in_ok-kept.ensures.value c.by.ensures.met
