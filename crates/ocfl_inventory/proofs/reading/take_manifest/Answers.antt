use Rattle.std.proofs.Common.{refl}
use Rattle.std.specs.Prelude.{codes}
use Rattle.ocfl_inventory.proofs.reading.take_manifest.Goals as goal

pub returns-clause-fixity : goal.returns-clause-fixity
returns-clause-fixity c = c.take_member.ensures.others (codes "fixity") refl
