use Rattle.std.proofs.Common.{◌∙◌}
use Rattle.ocfl_codes.proofs.Inventories.{version_of_none, version_of_some}
use Rattle.ocfl_codes.proofs.inventory.is_version_path.Goals as goal

pub returns-in-Some : goal.returns-in-Some
returns-in-Some c = c.is_version_name.ensures ∙ version_of_some c.args.path.now c.rsplit_once.result _ c.in-Some.is c.rsplit_once.ensures.cases

pub returns-in-None : goal.returns-in-None
returns-in-None c = version_of_none c.args.path.now c.rsplit_once.result c.in-None.is c.rsplit_once.ensures.cases
