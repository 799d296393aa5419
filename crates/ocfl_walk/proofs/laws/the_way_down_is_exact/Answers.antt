use Rattle.ocfl_walk.proofs.HolderLaws.{held_above, held_alone, ways, no_way}
use Rattle.ocfl_walk.proofs.laws.the_way_down_is_exact.Goals as goal

pub returns : goal.returns
returns c = assumption (held_above, held_alone, ways, no_way)
