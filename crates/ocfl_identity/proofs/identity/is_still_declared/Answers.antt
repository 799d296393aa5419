use Rattle.std.proofs.{Common.{[], subst}, lemmas.Result.{err_from_is_err_and}}
use Rattle.ocfl_tree.specs.Store.{Did}
use Rattle.ocfl_identity.specs.Identity.{IsUnread, OpensFirst, openings_of}
use Rattle.ocfl_identity.proofs.identity.is_still_declared.Goals as goal

pub returns-in-Some-clause-opened : goal.returns-in-Some-clause-opened
returns-in-Some-clause-opened g c = λ told root is. subst (λ ns. Did (g.T.Tree.state c.args.store.now) (g.T.Tree.state c.hash_declarations.new.store) (openings_of root ns) [] 0) c.deref.ensures.value (c.in_ok-declared.ensures.opened told root is)

pub returns-in-None-clause-opened : goal.returns-in-None-clause-opened
returns-in-None-clause-opened g c = λ told root is. subst (λ ns. Did (g.T.Tree.state c.args.store.now) (g.T.Tree.state c.hash_declarations.new.store) (openings_of root ns) [] 0) c.deref.ensures.value (c.in_ok-declared.ensures.opened told root is)

pub returns-in_err-declared-clause-refused : goal.returns-in_err-declared-clause-refused
returns-in_err-declared-clause-refused g c = λ told root is.
    let p = err_from_is_err_and c.from_residual.result c.from_residual.ensures.1 in
    rw (p.1, p.2) (λ memory. subst (λ ns. OpensFirst (g.T.Tree.state c.args.store.now) (g.T.Tree.state c.hash_declarations.new.store) (openings_of root ns) []) c.deref.ensures.value (c.in_err-declared.ensures.refused told root is memory))

pub returns-in_err-declared-clause-unread : goal.returns-in_err-declared-clause-unread
returns-in_err-declared-clause-unread g c = λ told root is.
    let p = err_from_is_err_and c.from_residual.result c.from_residual.ensures.1 in
    rw (p.1, p.2) (λ q e. subst (λ ns. IsUnread root (g.T.Tree.state c.args.store.now) (g.T.Tree.state c.hash_declarations.new.store) ns [] q) c.deref.ensures.value (c.in_err-declared.ensures.unread told root is q e))
