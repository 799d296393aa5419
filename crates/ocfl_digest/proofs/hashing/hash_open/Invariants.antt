use Rattle.std.proofs.Common.{◌-◌, ◌^◌}
use Rattle.ocfl_digest.proofs.HashingLemmas.{IsHashing}
use Rattle.ocfl_digest.proofs.hashing.hash_open.Given as goal

abbrev pub invariant-loop-given : goal.invariant-loop-given
invariant-loop-given g l =
    let Tree = g.T.Tree in
    IsHashing Tree.told (Tree.state l.fn.store) (Tree.state l.store) l.place l.fn.wanted l.hashers l.given

abbrev pub decreases-loop-given : goal.decreases-loop-given
decreases-loop-given g l = 2 ^ 62 - l.given
