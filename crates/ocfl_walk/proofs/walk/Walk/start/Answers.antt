use Rattle.std.proofs.{Common.{refl}, lemmas.Result.{err_from_is_err_and}}
use Rattle.ocfl_walk.proofs.FoundLaws.{start_at_none, start_fails_down, start_goes_down}
use Rattle.ocfl_walk.proofs.{OrderlyTests.{orderly_to}, WalkWords.{opens_down, opens_nothing}}
use Rattle.ocfl_walk.proofs.walk.Walk.start.Goals as goal

pub invariant_of-result-2 : goal.invariant_of-result-2
invariant_of-result-2 g c = record { orderly = orderly_to c.in_ok-stand.stand c.in_ok-stand.ensures.orderly }

pub returns-clause-told : goal.returns-clause-told
returns-clause-told g c = λ h root over.
    let told = c.in_ok-stand.ensures.told h root over in
    rw c.in-Some.is (start_goes_down c.args.further root _ _ c.in-Some.place.now told.0, (refl, told.1))

pub returns-in_default-clause-told : goal.returns-in_default-clause-told
returns-in_default-clause-told g c = λ h root over. rw c.in_default.is (start_at_none c.args.further root _ over, (refl, refl))

pub returns-in_err-stand-clause-told : goal.returns-in_err-stand-clause-told
returns-in_err-stand-clause-told g c = λ h root over.
    let p = err_from_is_err_and c.from_residual.result c.from_residual.ensures.1 in
    rw (p.1, p.2, c.in-Some.is) (start_fails_down c.args.further root _ _ c.in-Some.place.now _ (c.in_err-stand.ensures.told h root over))

pub returns-clause-inventories : goal.returns-clause-inventories
returns-clause-inventories g c = λ h root over. opens_down c.args.further root _ _ _ _ _ _ _ (c.in_ok-stand.ensures.told h root over).0.comes.goes

pub returns-in_default-clause-inventories : goal.returns-in_default-clause-inventories
returns-in_default-clause-inventories g c = λ h root over. opens_nothing root _

pub returns-in_err-stand-clause-inventories : goal.returns-in_err-stand-clause-inventories
returns-in_err-stand-clause-inventories g c = λ h root over. opens_down c.args.further root _ _ _ _ _ _ _ (c.in_err-stand.ensures.told h root over).goes
