use Rattle.ocfl_walk.proofs.WayDownLaws.{down_entered, down_inventories, down_listed, down_metadata, down_root, down_unfailing}
use Rattle.ocfl_walk.proofs.laws.the_way_down_opens_one_inventory.Goals as goal

pub returns : goal.returns
returns c = assumption (down_inventories, down_metadata, down_listed, down_entered, down_root, down_unfailing)
