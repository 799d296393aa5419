use Rattle.ocfl_separators.proofs.PartsTexts.{not_bad_and_long}
use Rattle.ocfl_separators.proofs.laws.refused_separators_have_one_fault.Goals as goal

pub returns : goal.returns
returns c = not_bad_and_long
