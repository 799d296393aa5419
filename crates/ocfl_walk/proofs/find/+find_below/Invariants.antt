use Rattle.std.proofs.Common.{length}
use Rattle.ocfl_walk.proofs.find.+find_below.Given as goal

abbrev pub decreases-find_below : goal.decreases-find_below
decreases-find_below g l = length l.rest.now
