use Rattle.ocfl_rules.proofs.MetaLaws.{in_extensions}
use Rattle.ocfl_rules.proofs.laws.extensions_are_exact.Goals as goal

pub returns : goal.returns
returns c root p = in_extensions root p
