use Rattle.std.proofs.Common.{◌≡◌, ◌++◌, ℕ, List, Err, length-take, take, arith, ap, refl}
use Rattle.std.proofs.{lemmas.Grind.{common_steps}, lemmas.Result.{err_from_is_err_and}}
use Rattle.ocfl_digest.proofs.BoundedLemmas.{IsBounding, bounding_reads, bounding_ends, bounding_passes, open_stops, read_stops, memory_stops}
use Rattle.ocfl_digest.proofs.bounded.read_bounded.Goals as goal

pub returns-in_err-open-clause-reads : goal.returns-in_err-open-clause-reads
returns-in_err-open-clause-reads g c = λ told root same.
    let p = err_from_is_err_and c.from_residual.result c.from_residual.ensures.1 in
    rw (p.1, p.2) (open_stops root _ _ _ _ _ (c.in_err-open.ensures told) same)

pub returns-in_err-count-clause-reads : goal.returns-in_err-count-clause-reads
returns-in_err-count-clause-reads g c = λ told root same.
    let p = err_from_is_err_and c.from_residual-in_err-count.result c.from_residual-in_err-count.ensures.1 in
    let long = c.loop-bytes.bytes.ok.0 in
    rw (p.1, p.2) (read_stops _ root _ _ _ _ _ _ _ _ (omega (arith, long)) c.loop-bytes.invariant (c.in_err-count.ensures.reads told)
    (λ e. c.in_err-count.ensures.no_memory (ap Err e)) (c.in_err-count.ensures.largest told) told)

pub returns-then-count-eq0-clause-reads : goal.returns-then-count-eq0-clause-reads
returns-then-count-eq0-clause-reads g c = λ told root same.
    let long = c.loop-bytes.bytes.ok.0 in
    bounding_ends _ root _ _ _ _ _ _ _ _ _ _ (omega (arith, long)) c.loop-bytes.invariant (c.in_ok-count.ensures.reads told)
    (ap (λ n. take n c.read_piece.new.buffer) c.if-count-eq0.true) (c.in_ok-count.ensures.largest told)
    (c.close.ensures told) (refl {A = List ℕ}, c.loop-bytes.invariant.within) told same

pub returns-then-left-count-clause-reads : goal.returns-then-left-count-clause-reads
returns-then-left-count-clause-reads g c = λ told root same.
    let long = c.loop-bytes.bytes.ok.0 in
    let room = c.read_piece.array_long in
    let given = length-take c.in_ok-count.count c.read_piece.new.buffer in
    let bound = c.in_ok-count.ensures.bound in
    bounding_passes _ root _ _ _ _ _ _ _ _ _ _ (omega (arith, long)) c.loop-bytes.invariant (c.in_ok-count.ensures.reads told) (omega (arith, given, bound)) (omega (arith, long, room, given, bound))
    (c.in_ok-count.ensures.largest told) (c.close-then-left-count.ensures told) (λ all more. more) told same

pub returns-then-is_err-clause-reads : goal.returns-then-is_err-clause-reads
returns-then-is_err-clause-reads g c = λ told root same.
    let long = c.loop-bytes.bytes.ok.0 in
    let room = c.read_piece.array_long in
    let given = length-take c.in_ok-count.count c.read_piece.new.buffer in
    let bound = c.in_ok-count.ensures.bound in
    memory_stops _ root _ _ _ _ _ _ _ _ _ (omega (arith, long)) c.loop-bytes.invariant (c.in_ok-count.ensures.reads told) (omega (arith, long, given, bound))
    (c.in_ok-count.ensures.largest told) (c.close-then-is_err.ensures told) told

pub loop-bytes-preserved : goal.loop-bytes-preserved
loop-bytes-preserved g c =
    let long = c.loop-bytes.bytes.ok.0 in
    let room = c.read_piece.array_long in
    let given = length-take c.in_ok-count.count c.read_piece.new.buffer in
    let bound = c.in_ok-count.ensures.bound in
    let step : IsBounding g.T.Tree.told (g.T.Tree.state c.args.store.now) (g.T.Tree.state c.read_piece.new.store) c.args.place.now c.args.limit
    (c.loop-bytes.bytes.items ++ take c.in_ok-count.count c.read_piece.new.buffer) =
    bounding_reads _ _ _ _ _ _ _ _ _ (omega (arith, long)) c.loop-bytes.invariant c.in_ok-count.ensures.reads c.in_ok-count.ensures.largest
    (omega (arith, room, given, bound)) (omega (arith, long, given, bound)) in
    let grown : c.extend_from_slice.new.self.items ≡ c.loop-bytes.bytes.items ++ take c.in_ok-count.count c.read_piece.new.buffer = grind (arith, common_steps) in
    rw grown step
