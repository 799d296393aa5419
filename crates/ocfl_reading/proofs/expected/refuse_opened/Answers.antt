use Rattle.ocfl_reading.proofs.Refusals.{refused_on}
use Rattle.ocfl_reading.proofs.expected.refuse_opened.Goals as goal

pub returns-in-Err-clause-refused : goal.returns-in-Err-clause-refused
returns-in-Err-clause-refused g c = refused_on c.args.file.now c.line_of.result c.refused.result c.refused.ensures (c.line_of.ensures c.args.file.now c.in-Err.ensures.said)
