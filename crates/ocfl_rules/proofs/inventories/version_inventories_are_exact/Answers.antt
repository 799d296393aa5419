use Rattle.ocfl_rules.proofs.InventoryLaws.{version_inventory_is}
use Rattle.ocfl_rules.proofs.inventories.version_inventories_are_exact.Goals as goal

pub returns : goal.returns
returns c = version_inventory_is
