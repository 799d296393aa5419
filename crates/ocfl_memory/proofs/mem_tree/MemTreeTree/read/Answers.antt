use Rattle.std.proofs.Common.{Err, ◌≡◌, ap, sym, ◌∙◌, arith, drop, take, length, ◌-◌}
use Rattle.std.specs.Prelude.{is_some}
use Rattle.ocfl_memory.specs.Internal.Nodes.{bytes_in, leaf_at}
use Rattle.ocfl_tree.proofs.Orders.{true_not_false}
use Rattle.ocfl_memory.proofs.Lists.{leaf_at_item}
use Rattle.ocfl_memory.proofs.Seen.{reads_seen, read_breaks, read_fails_is, some_rest, is_open, rest_slice}
use Rattle.ocfl_memory.proofs.mem_tree.MemTreeTree.read.Goals as goal

pub returns-then-can_fail-clause-reads : goal.returns-then-can_fail-clause-reads
returns-then-can_fail-clause-reads c =
    rw (← c.self.view_is, c.device_failed.ensures.trouble, c.device_failed.ensures.counted)
    (read_breaks c.self.inside.nodes.items c.self.inside.open c.in-Some.open _ _ _ _ _ _ _ c.self.inside.plan c.self.inside.plan c.in-Some.is c.self.invariant.reading c.note_failure.ensures)

pub returns-then-can_fail-clause-device : goal.returns-then-can_fail-clause-device
returns-then-can_fail-clause-device c =
    let struck = rw c.deref.ensures.value at c.strikes_read-struck.ensures.struck in
    let is = read_fails_is c.self.inside.nodes.items c.self.inside.open c.in-Some.open c.self.inside.openings.items c.self.inside.listings.items c.self.inside.failed_listings.items
    c.self.inside.failures c.self.inside.largest c.self.inside.plan c.strikes_read-struck.result c.in-Some.is c.self.invariant.reading struck in
    rw (← c.self.view_is) (λ _. (ap is_some (some_rest c.self.inside.nodes.items _ _ c.in-Some.is), is ∙ sym c.can_fail.ensures ∙ c.if-can_fail.true), λ _. ap Err c.device_failed.ensures.trouble)

pub returns-clause-device : goal.returns-clause-device
returns-clause-device c =
    let struck = rw c.deref.ensures.value at c.strikes_read-struck.ensures.struck in
    let is = read_fails_is c.self.inside.nodes.items c.self.inside.open c.in-Some.open c.self.inside.openings.items c.self.inside.listings.items c.self.inside.failed_listings.items
    c.self.inside.failures c.self.inside.largest c.self.inside.plan c.strikes_read-struck.result c.in-Some.is c.self.invariant.reading struck in
    rw (← c.self.view_is) (λ e. absurd cc, λ h. absurd (true_not_false (sym h.1 ∙ is ∙ sym c.can_fail.ensures ∙ c.if-can_fail.false)))

pub returns-clause-reads : goal.returns-clause-reads
returns-clause-reads c =
    let file = is_open _ _ _ _ c.in-Some.is c.self.invariant.reading in
    let bytes : c.bytes.result.now ≡ bytes_in (leaf_at c.self.inside.nodes.items c.in-Some.open.index) =
    c.bytes.ensures ∙ ap bytes_in (sym (leaf_at_item _ _ _ file.index c.index.ensures)) in
    let left = rest_slice c.in-Some.open.offset c.bytes.result.now ∙ ap (drop c.in-Some.open.offset) bytes in
    rw (← c.self.view_is) (reads_seen c.self.inside.nodes.items c.self.inside.open c.in-Some.open _ _ _ _ _ _ _ c.within_step-count.result _ c.self.inside.plan
    c.self.inside.plan _ (take (length c.bytes.result.now - c.in-Some.open.offset) (drop c.in-Some.open.offset c.bytes.result.now)) c.in-Some.is
    c.self.invariant.reading left (omega (arith, c.within_step-count.ensures.within)) (λ h k. c.within_step-count.ensures.some (omega arith)) c.give.ensures c.note_given.ensures)
