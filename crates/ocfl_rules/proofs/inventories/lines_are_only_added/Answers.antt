use Rattle.ocfl_rules.proofs.InventoryLaws.{inventories_have_lines}
use Rattle.ocfl_rules.proofs.inventories.lines_are_only_added.Goals as goal

pub returns-clause-of_inventories : goal.returns-clause-of_inventories
returns-clause-of_inventories c = inventories_have_lines
