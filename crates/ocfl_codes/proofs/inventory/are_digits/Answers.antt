use Rattle.ocfl_codes.proofs.Inventories.{digits_are}
use Rattle.ocfl_codes.proofs.inventory.are_digits.Goals as goal

pub returns : goal.returns
returns c = rw digits_are c.all_digits.ensures
