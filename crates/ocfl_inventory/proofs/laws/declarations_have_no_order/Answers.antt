use Rattle.ocfl_inventory.proofs.Declarations.{declared_permuted}
use Rattle.ocfl_inventory.proofs.laws.declarations_have_no_order.Goals as goal

pub returns : goal.returns
returns c = declared_permuted
