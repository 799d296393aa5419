use Rattle.std.proofs.{Common.{◌∙◌, sym}, lemmas.Result.{err_from_is_err_and}}
use Rattle.ocfl_memory.proofs.Changes.{kept_push, puts, refusal_found, not_refused}
use Rattle.ocfl_memory.proofs.mem_tree.MemTree.put.Goals as goal

pub returns-in_err-put-clause-refused : goal.returns-in_err-put-clause-refused
returns-in_err-put-clause-refused c =
    let p = err_from_is_err_and c.from_residual.result c.from_residual.ensures.1 in
    rw (p.1, p.2, ← c.self.view_is, ← refusal_found c.self.inside.nodes.items _ _ c.args.place.now c.self.invariant) c.in_err-put.ensures.refused

pub invariant_of-self-2 : goal.invariant_of-self-2
invariant_of-self-2 c =
    let none = not_refused _ c.in_ok-put.ensures.refused in
    kept_push _ _ c.args.place.now c.args.stored _ _ (sym (refusal_found c.self.inside.nodes.items _ _ c.args.place.now c.self.invariant) ∙ none) c.in_ok-put.ensures.ok c.self.invariant

pub returns-clause-ok : goal.returns-clause-ok
returns-clause-ok c =
    let none = not_refused _ c.in_ok-put.ensures.refused in
    rw (← c.self.view_is) (puts _ _ c.args.place.now c.args.stored _ _ _ _ _ _ c.self.inside.plan
    (sym (refusal_found c.self.inside.nodes.items _ _ c.args.place.now c.self.invariant) ∙ none) c.in_ok-put.ensures.ok c.self.invariant)

pub returns-clause-refused : goal.returns-clause-refused
returns-clause-refused c = rw (← c.self.view_is, ← refusal_found c.self.inside.nodes.items _ _ c.args.place.now c.self.invariant) c.in_ok-put.ensures.refused
