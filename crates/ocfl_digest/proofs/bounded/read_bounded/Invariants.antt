use Rattle.std.proofs.Common.{◌-◌, vec_len}
use Rattle.ocfl_digest.proofs.BoundedLemmas.{IsBounding}
use Rattle.ocfl_digest.proofs.bounded.read_bounded.Given as goal

abbrev pub invariant-loop-bytes : goal.invariant-loop-bytes
invariant-loop-bytes g l =
    let Tree = g.T.Tree in
    IsBounding Tree.told (Tree.state l.fn.store) (Tree.state l.store) l.place l.limit l.bytes.items

abbrev pub decreases-loop-bytes : goal.decreases-loop-bytes
decreases-loop-bytes g l = l.limit - vec_len l.bytes
