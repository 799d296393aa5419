use Rattle.ocfl_memory.proofs.{Listings.{apart_kept}, Seen.{lists_seen, list_breaks}}
use Rattle.ocfl_memory.proofs.mem_tree.MemTreeTree.list.Goals as goal

pub returns-in-Ok-clause-ordinary : goal.returns-in-Ok-clause-ordinary
returns-in-Ok-clause-ordinary c =
    let ok = rw c.deref.ensures.value at c.in-Ok.ensures.ok in
    record {
      once = rw ok.1 (apart_kept c.self.inside.nodes.items c.args.place.now c.self.invariant.once);
      few = rw ok.1 (c.self.invariant.few c.args.place.now);
    }

pub returns-in-Ok-clause-lists : goal.returns-in-Ok-clause-lists
returns-in-Ok-clause-lists c =
    let ok = rw c.deref.ensures.value at c.in-Ok.ensures.ok in
    rw (← c.self.view_is) (lists_seen c.self.inside.nodes.items c.self.inside.open _ _ _ _ _ c.self.inside.plan c.self.inside.plan _ c.args.place.now _ c.self.invariant ok.0 ok.1 ok.2)

pub returns-then-can_fail-clause-lists : goal.returns-then-can_fail-clause-lists
returns-then-can_fail-clause-lists c =
    rw (← c.self.view_is, c.device_failed.ensures.trouble, c.device_failed.ensures.counted)
    (list_breaks c.self.inside.nodes.items c.self.inside.open _ _ _ _ _ c.self.inside.plan c.self.inside.plan _ _ c.args.place.now
    c.in_ok-note_failed_listing.ensures.listed c.in_ok-note_failed_listing.ensures.failed)
