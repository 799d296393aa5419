use Rattle.std.proofs.Common.{◌∙◌, ap, refl, sym, Some, length}
use Rattle.std.proofs.{lemmas.List.{nil_from_length}, lemmas.Result.{err_from_is_err_and}}
use Rattle.std.specs.Prelude.{MatchResult}
use Rattle.ocfl_walk.specs.{Before.{directory_of}, WalkCalls.{GoDownFails, GoesDown}}
use Rattle.ocfl_walk.specs.{Walks.{Stands}, declared.walk.Walk.{Walk}}
use Rattle.ocfl_walk.proofs.BeforeLaws.{directory_is}
use Rattle.ocfl_walk.proofs.FoundLaws.{answered_memory, start_fails_down, start_goes_down}
use Rattle.ocfl_walk.proofs.OrderlyTests.{orderly_to}
use Rattle.ocfl_walk.proofs.WalkWords.{at_name, at_top, opens_down, some_directory}
use Rattle.ocfl_walk.proofs.walk.Walk.start_at.Goals as goal

pub returns-then-depth-eq0-clause-told : goal.returns-then-depth-eq0-clause-told
returns-then-depth-eq0-clause-told g c = λ h root over.
    at_top root c.args.from.now (nil_from_length c.args.from.now (sym c.depth.ensures ∙ c.if-depth-eq0.true))
    (λ d b. MatchResult c.start.result (λ walk. GoesDown c.args.further root (g.T.Tree.state c.args.store.now) (g.T.Tree.state c.start.new.store) d × Stands c.args.further root walk b)
    (λ why. GoDownFails c.args.further root (g.T.Tree.state c.args.store.now) (g.T.Tree.state c.start.new.store) d why))
    (c.start.ensures.told h root over)

pub returns-in_err-directory-clause-told : goal.returns-in_err-directory-clause-told
returns-in_err-directory-clause-told g c = λ h root over.
    let p = err_from_is_err_and c.from_residual.result c.from_residual.ensures.1 in
    let d = some_directory c.args.from.now (λ e. c.if-depth-eq0.false (c.depth.ensures ∙ ap length e)) in
    rw (p.1, p.2, d.1) (answered_memory c.args.further root (g.T.Tree.state c.args.store.now) d.0 over)

pub returns-in_err-stand-clause-inventories : goal.returns-in_err-stand-clause-inventories
returns-in_err-stand-clause-inventories g c = λ h root over. opens_down c.args.further root _ _ _ _ _ _ _ (c.in_err-stand.ensures.told h root over).goes

pub returns-in_err-stand-clause-told : goal.returns-in_err-stand-clause-told
returns-in_err-stand-clause-told g c = λ h root over.
    let p = err_from_is_err_and c.from_residual-in_err-stand.result c.from_residual-in_err-stand.ensures.1 in
    let d = c.in_ok-directory.directory in
    let same = ap directory_of c.in_ok-directory.ensures ∙ directory_is d c.in_ok-directory.name in
    rw (p.1, p.2, same) (start_fails_down c.args.further root _ _ d _ (c.in_err-stand.ensures.told h root over))

pub invariant_of-result : goal.invariant_of-result
invariant_of-result g c = record { orderly = orderly_to c.in_ok-stand.stand c.in_ok-stand.ensures.orderly }

pub returns-clause-last : goal.returns-clause-last
returns-clause-last g c = c.in_ok-stand.ensures.last ∙ sym (ap directory_of c.in_ok-directory.ensures ∙ directory_is c.in_ok-directory.directory c.in_ok-directory.name)

pub returns-clause-inventories : goal.returns-clause-inventories
returns-clause-inventories g c = λ h root over. opens_down c.args.further root _ _ _ _ _ _ _ (c.in_ok-stand.ensures.told h root over).0.comes.goes

pub returns-clause-told : goal.returns-clause-told
returns-clause-told g c = λ h root over.
    let d = c.in_ok-directory.directory in
    let n = c.in_ok-directory.name in
    let told = c.in_ok-stand.ensures.told h root over in
    let walk : Walk = record { alloc = c.args.alloc; further = c.args.further; stand = c.in_ok-stand.stand; first = Some n; orderly = orderly_to c.in_ok-stand.stand c.in_ok-stand.ensures.orderly } in
    at_name root c.args.from.now d n c.in_ok-directory.ensures (λ x b. GoesDown c.args.further root (g.T.Tree.state c.args.store.now) (g.T.Tree.state c.stand_at.new.store) x × Stands c.args.further root walk b)
    (start_goes_down c.args.further root _ _ d told.0, (refl, (d, told.1, refl)))
