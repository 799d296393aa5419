use Rattle.ocfl_reading.proofs.Refusals.{refused_on}
use Rattle.ocfl_reading.proofs.expected.refuse_read.Goals as goal

pub returns-in-Some-clause-refused : goal.returns-in-Some-clause-refused
returns-in-Some-clause-refused g c = refused_on c.args.file.now c.line_of.result c.refused.result c.refused.ensures (c.line_of.ensures c.args.file.now c.in-Some.ensures.said)
