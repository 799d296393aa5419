use Rattle.std.proofs.{Common.{◌∙◌, [], ap, sym, subst}, lemmas.Result.{err_from_is_err_and}}
use Rattle.ocfl_tree.specs.Store.{Did}
use Rattle.ocfl_identity.specs.Identity.{IsUnread, OpensFirst, declarations_among, declared_by, openings_of}
use Rattle.ocfl_identity.proofs.{Askings.{err_always, first_none}, Ordered.{declared_there}}
use Rattle.ocfl_identity.proofs.identity.identify.Goals as goal

pub returns-in-Some-clause-opened : goal.returns-in-Some-clause-opened
returns-in-Some-clause-opened g c = λ told root is. subst (λ ns. Did (g.T.Tree.state c.args.store.now) (g.T.Tree.state c.hash_declarations.new.store) (openings_of root ns) [] 0) c.deref.ensures.value (c.in_ok-declared.ensures.opened told root is)

pub returns-in-None-clause-unread : goal.returns-in-None-clause-unread
returns-in-None-clause-unread g c = λ told root is listed p e.
    absurd (declared_there root
    (ap (declared_by root) (sym (c.deref.ensures.value ∙ c.in_ok-declarations.ensures ∙ ap declarations_among listed)) ∙ sym (c.in_ok-declared.ensures.told told root is) ∙ c.in-None.is))

pub returns-in_err-declarations-clause-refused : goal.returns-in_err-declarations-clause-refused
returns-in_err-declarations-clause-refused g c = λ told root is. err_always c.from_residual.result (λ why memory. first_none _ _)

pub returns-in_err-declared-clause-refused : goal.returns-in_err-declared-clause-refused
returns-in_err-declared-clause-refused g c = λ told root is.
    let p = err_from_is_err_and c.from_residual-in_err-declared.result c.from_residual-in_err-declared.ensures.1 in
    rw (p.1, p.2) (λ memory. subst (λ ns. OpensFirst (g.T.Tree.state c.args.store.now) (g.T.Tree.state c.hash_declarations.new.store) (openings_of root ns) []) (c.deref.ensures.value ∙ c.in_ok-declarations.ensures) (c.in_err-declared.ensures.refused told root is memory))

pub returns-in_err-declared-clause-unread : goal.returns-in_err-declared-clause-unread
returns-in_err-declared-clause-unread g c = λ told root is listed.
    let p = err_from_is_err_and c.from_residual-in_err-declared.result c.from_residual-in_err-declared.ensures.1 in
    rw (p.1, p.2) (λ q e. subst (λ ns. IsUnread root (g.T.Tree.state c.args.store.now) (g.T.Tree.state c.hash_declarations.new.store) ns [] q) (c.deref.ensures.value ∙ c.in_ok-declarations.ensures) (c.in_err-declared.ensures.unread told root is q e))
