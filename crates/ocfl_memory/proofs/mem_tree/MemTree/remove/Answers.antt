use Rattle.std.proofs.Common.{◌≢◌, [], rules}
use Rattle.ocfl_memory.proofs.Changes.{kept_left, removes}
use Rattle.ocfl_memory.proofs.mem_tree.MemTree.remove.Goals as goal

pub invariant_of-self : goal.invariant_of-self
invariant_of-self c =
    let some : c.args.place.now ≢ [] = search rules in
    kept_left _ _ c.args.place.now _ _ some c.remove.ensures c.self.invariant

pub returns-clause-ok : goal.returns-clause-ok
returns-clause-ok c =
    let some : c.args.place.now ≢ [] = search rules in
    rw (← c.self.view_is) (removes _ _ c.args.place.now _ _ _ _ _ _ c.self.inside.plan some c.remove.ensures)
