use Rattle.std.proofs.lemmas.Result.{err_from_is_err_and}
use Rattle.ocfl_walk.proofs.WalkCallLaws.{no_memory}
use Rattle.ocfl_walk.proofs.FirstSteps.{missing_falls, missing_goes_on, missing_orderly, missing_there, missing_told}
use Rattle.ocfl_walk.proofs.stand.Stand.take_missing.Goals as goal

pub returns-in_err-item-clause-told : goal.returns-in_err-item-clause-told
returns-in_err-item-clause-told c = λ further s root over last held turn unseen.
    let p = err_from_is_err_and c.from_residual.result c.from_residual.ensures.1 in
    rw (p.1, p.2) (no_memory further root s over)

pub returns-clause-orderly : goal.returns-clause-orderly
returns-clause-orderly c = missing_orderly c.args.self.now c.args.place c.requires.orderly c.requires.some c.requires.trim c.requires.next

pub returns-clause-goes_on : goal.returns-clause-goes_on
returns-clause-goes_on c = missing_goes_on c.args.self.now c.args.place c.requires.orderly c.requires.some c.requires.trim c.requires.next c.in_ok-item.item
    c.step_of.result c.step_of.ensures c.in_ok-item.ensures.fair c.in_ok-item.ensures.named

pub returns-clause-falls : goal.returns-clause-falls
returns-clause-falls c = missing_falls c.args.self.now c.args.place c.requires.orderly c.requires.some c.requires.trim c.requires.next

pub returns-clause-there : goal.returns-clause-there
returns-clause-there c = missing_there c.args.self.now c.args.place c.requires.orderly c.requires.some c.requires.trim c.requires.next c.in_ok-item.item c.step_of.result c.step_of.ensures

pub returns-clause-told : goal.returns-clause-told
returns-clause-told c = λ further s root over last held turn unseen.
    missing_told c.args.self.now c.args.place c.requires.orderly c.requires.some c.requires.trim c.requires.next c.in_ok-item.item c.step_of.result
    c.step_of.ensures further root s last over held turn unseen (c.in_ok-item.ensures.told further root held.table unseen)
