use Rattle.ocfl_separators.proofs.PartsTexts.{not_bad}
use Rattle.ocfl_separators.proofs.laws.no_separators_are_refused.Goals as goal

pub returns-clause-line : goal.returns-clause-line
returns-clause-line c = not_bad
