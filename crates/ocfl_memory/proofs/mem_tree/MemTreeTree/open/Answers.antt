use Rattle.std.proofs.Common.{sym, ◌∙◌}
use Rattle.ocfl_tree.proofs.Orders.{true_not_false}
use Rattle.ocfl_memory.proofs.Seen.{opens_seen, open_breaks}
use Rattle.ocfl_memory.proofs.mem_tree.MemTreeTree.open.Goals as goal

pub returns-then-can_fail-clause-after : goal.returns-then-can_fail-clause-after
returns-then-can_fail-clause-after c = rw (← c.self.view_is) c.strikes-struck.ensures.after

pub returns-then-can_fail-clause-opens : goal.returns-then-can_fail-clause-opens
returns-then-can_fail-clause-opens c =
    rw (← c.self.view_is, c.device_failed.ensures.trouble, c.device_failed.ensures.counted)
    (open_breaks c.self.inside.nodes.items c.self.inside.open _ _ _ _ _ c.self.inside.plan c.self.inside.plan _ c.args.place.now c.in_ok-note_opening.ensures.ok)

pub returns-clause-after : goal.returns-clause-after
returns-clause-after c = rw (← c.self.view_is) c.strikes-struck.ensures.after

pub returns-clause-opens : goal.returns-clause-opens
returns-clause-opens c =
    let some = rw c.deref.ensures.value at c.in-Some.ensures.some in
    rw (← c.self.view_is) (opens_seen c.self.inside.nodes.items c.self.inside.open _ _ _ _ _ c.self.inside.plan c.self.inside.plan _ c.args.place.now
    c.in-Some.index c.self.invariant some.1 c.in_ok-note_opening-2.ensures.ok)

pub returns-clause-struck : goal.returns-clause-struck
returns-clause-struck c = rw (← c.self.view_is, ← c.strikes-struck.ensures.struck, ← c.can_fail.ensures) (λ h. absurd (true_not_false (sym h ∙ c.if-can_fail.false)))

pub returns-clause-device : goal.returns-clause-device
returns-clause-device c = λ e. absurd cc
