use Rattle.ocfl_rules.proofs.MetaLaws.{meta_is}
use Rattle.ocfl_rules.proofs.laws.metadata_is_exact.Goals as goal

pub returns : goal.returns
returns c further root p = meta_is further root p
