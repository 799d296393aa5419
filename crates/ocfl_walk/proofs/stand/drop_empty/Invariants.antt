use Rattle.std.proofs.Common.{◌≡◌}
use Rattle.arrayvec.specs.ArrayVec.{array_vec_len}
use Rattle.ocfl_tree.specs.Place.{Place}
use Rattle.ocfl_walk.specs.{Standing.{piles_at}, Internal.Standing.{trimmed}}
use Rattle.ocfl_walk.proofs.stand.drop_empty.Given as goal

abbrev pub invariant-loop-listings : goal.invariant-loop-listings
invariant-loop-listings l = (p : Place) → trimmed (piles_at p l.listings.items) ≡ trimmed (piles_at p l.initial.listings.items)

abbrev pub decreases-loop-listings : goal.decreases-loop-listings
decreases-loop-listings l = array_vec_len l.listings
