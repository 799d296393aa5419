use Rattle.std.proofs.Common.{◌≡◌, length, drop, arith}
use Rattle.ocfl_inventory.proofs.SharedFronts.{starts_shared, shared_so_far}
use Rattle.ocfl_inventory.proofs.sorting.count_shared.Goals as goal

pub returns-then-starts_with-clause-shared : goal.returns-then-starts_with-clause-shared
returns-then-starts_with-clause-shared c =
    (drop (length c.args.text.now) c.args.other.now, starts_shared c.args.text.now c.args.other.now c.starts_with.result c.starts_with.ensures.value c.if-starts_with.true)

pub returns-then-text-index-clause-shared : goal.returns-then-text-index-clause-shared
returns-then-text-index-clause-shared c = (drop c.loop-index.index c.args.other.now, shared_so_far c.args.text.now c.args.other.now c.loop-index.index c.loop-index.invariant)

pub returns-clause-shared : goal.returns-clause-shared
returns-clause-shared c =
    let all : c.loop-index.index ≡ c.min-both.result = omega (arith, c.loop-index.auto.index-end, c.loop-index-test.false) in
    (drop c.min-both.result c.args.other.now, shared_so_far c.args.text.now c.args.other.now c.min-both.result (rw all at c.loop-index.invariant))
