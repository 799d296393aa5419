use Rattle.ocfl_compare.proofs.Reports.{not_greater, same_not_greater}
use Rattle.ocfl_compare.proofs.reading.lesser_place.Goals as goal

pub returns-then-is_lt-clause-second : goal.returns-then-is_lt-clause-second
returns-then-is_lt-clause-second c = same_not_greater c.args.other.now

pub returns-else-is_lt-clause-first : goal.returns-else-is_lt-clause-first
returns-else-is_lt-clause-first c = same_not_greater c.args.place.now

pub returns-else-is_lt-clause-second : goal.returns-else-is_lt-clause-second
returns-else-is_lt-clause-second c = not_greater c.args.place.now c.args.other.now (cc (c.if-is_lt.false, c.is_lt.ensures, c.cmp.ensures))
