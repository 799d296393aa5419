use Rattle.ocfl_compare.proofs.Lists.{end_off, end_on, shorter_by_one}
use Rattle.ocfl_compare.proofs.listing.without.Goals as goal

pub returns-then-is_end-clause-some : goal.returns-then-is_end-clause-some
returns-then-is_end-clause-some c = end_off c.args.line.now c.args.rest.now c.args.last c.is_end.result c.requires.whole c.is_end.ensures c.if-is_end.true

pub returns-then-is_end-clause-shorter : goal.returns-then-is_end-clause-shorter
returns-then-is_end-clause-shorter c = shorter_by_one c.args.line.now c.args.rest.now c.args.last c.requires.whole

pub returns-else-is_end-clause-none : goal.returns-else-is_end-clause-none
returns-else-is_end-clause-none c = λ _. end_on c.args.line.now c.args.rest.now c.args.last c.is_end.result c.requires.whole c.is_end.ensures c.if-is_end.false
