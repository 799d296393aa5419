use Rattle.std.proofs.Common.{arith, ap, Err}
use Rattle.ocfl_digest.proofs.HashingLemmas.{hashing_feeds, hashing_ends, hashing_digests, open_stops, read_stops, too_long_stops}
use Rattle.ocfl_digest.proofs.hashing.hash_open.Goals as goal

pub returns-in-Err-clause-hashes : goal.returns-in-Err-clause-hashes
returns-in-Err-clause-hashes g c = λ told root same. rw c.after.ensures (open_stops root _ _ _ _ same (c.in-Err.ensures told))

pub returns-in-Err-hash_piece-clause-hashes : goal.returns-in-Err-hash_piece-clause-hashes
returns-in-Err-hash_piece-clause-hashes g c = λ told root same.
    let step = c.in-Err-hash_piece.ensures in
    rw c.after-in-Err-hash_piece.ensures (read_stops _ root _ _ _ _ _ _ _ _ _ c.min-room.ensures c.loop-given.invariant c.loop-given-test.true
    (step.fails told) (λ e. step.no_memory (ap Err e)) (step.largest told) told same)

pub returns-then-count-eq0-clause-digests : goal.returns-then-count-eq0-clause-digests
returns-then-count-eq0-clause-digests g c =
    hashing_digests _ _ _ _ _ _ _ _ _ _ _ _ c.loop-given.invariant c.in-Ok.ensures.fed c.if-count-eq0.true (c.end.ensures c.args.wanted)

pub returns-then-count-eq0-clause-hashes : goal.returns-then-count-eq0-clause-hashes
returns-then-count-eq0-clause-hashes g c = λ told root same.
    hashing_ends _ _ _ _ _ root _ _ _ _ _ _ _ _ c.min-room.ensures c.loop-given.invariant c.loop-given-test.true c.in-Ok.ensures.fed c.if-count-eq0.true
    c.in-Ok.ensures.largest c.close.ensures (c.end.ensures c.args.wanted) told same

pub loop-given-preserved : goal.loop-given-preserved
loop-given-preserved g c =
    hashing_feeds _ _ _ _ _ _ _ _ _ _ _ c.min-room.ensures c.loop-given.invariant c.loop-given-test.true c.in-Ok.ensures.fed c.in-Ok.ensures.bound (omega arith)
    c.in-Ok.ensures.largest

pub returns-clause-hashes : goal.returns-clause-hashes
returns-clause-hashes g c = λ told root same.
    too_long_stops _ root _ _ _ _ _ _ _ c.loop-given.invariant (omega arith) c.close-2.ensures told same
