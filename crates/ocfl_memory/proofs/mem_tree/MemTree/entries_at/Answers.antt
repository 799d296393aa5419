use Rattle.std.proofs.Common.{IsTrue, rules, ◌∙◌}
use Rattle.ocfl_memory.proofs.Listings.{kept_is_listing}
use Rattle.ocfl_memory.proofs.mem_tree.MemTree.entries_at.Goals as goal

pub returns : goal.returns
returns c =
    let yes : IsTrue c.is_dir.result = search rules in
    let is = rw (c.deref.ensures.value, c.path.ensures.place) at (c.is_dir.ensures.0 yes) in
    let same = rw (c.deref-2.ensures.value, c.path-2.ensures.place) at c.in_ok-entries.ensures in
    rw (← c.self.view_is) (rw same (kept_is_listing c.self.inside.nodes.items c.args.place.now (c.self.invariant.rooted c.args.place.now ∙ is)))
