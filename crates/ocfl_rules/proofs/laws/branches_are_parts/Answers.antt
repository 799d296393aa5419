use Rattle.std.proofs.Common.{refl}
use Rattle.ocfl_rules.proofs.PartLaws.{branch_is}
use Rattle.ocfl_rules.proofs.laws.branches_are_parts.Goals as goal

pub returns : goal.returns
returns c = record { whole = λ items. refl; branch = branch_is }
