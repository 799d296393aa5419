use Rattle.ocfl_compare.proofs.Reports.{only_now, only_before}
use Rattle.ocfl_compare.proofs.reading.lesser.Goals as goal

pub returns-in-None-Some : goal.returns-in-None-Some
returns-in-None-Some c = only_now c.args.before.now c.args.now.now c.in-None-Some.line c.in-None-Some.is-0 c.in-None-Some.is-1

pub returns-in-Some-None : goal.returns-in-Some-None
returns-in-Some-None c = only_before c.args.before.now c.args.now.now c.in-Some-None.line c.in-Some-None.is-0 c.in-Some-None.is-1
