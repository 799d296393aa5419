use Rattle.ocfl_split.proofs.Cuts.{separators_count, separator_at}
use Rattle.ocfl_split.proofs.laws.parts_are_even.Goals as goal

pub returns-clause-count : goal.returns-clause-count
returns-clause-count c = separators_count

pub returns-clause-position : goal.returns-clause-position
returns-clause-position c = separator_at
