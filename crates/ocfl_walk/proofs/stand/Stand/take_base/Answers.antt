use Rattle.std.proofs.{Common.{[], None}, lemmas.Result.{err_from_is_err_and}}
use Rattle.ocfl_walk.proofs.MeetLaws.{ordinary}
use Rattle.ocfl_walk.proofs.StandSteps.{base_goes_on, base_orderly, base_room, base_there, base_told}
use Rattle.ocfl_walk.proofs.{StartLaws.{near_first}, WalkCallLaws.{meets_fails}}
use Rattle.ocfl_walk.proofs.stand.Stand.take_base.Goals as goal

pub returns-in_err-item-clause-told : goal.returns-in_err-item-clause-told
returns-in_err-item-clause-told g c = λ h root over further.
    let p = err_from_is_err_and c.from_residual.result c.from_residual.ensures.1 in
    rw (p.1, p.2) (meets_fails further root (g.T.Tree.state c.args.store.now) (g.T.Tree.state c.visit_base.new.store) None [] (near_first further root) _ (c.in_err-item.ensures.told h root over further).gives)

pub push_if-requires : goal.push_if-requires
push_if-requires g c = base_room c.args.self.now c.requires.orderly c.requires.first c.sorted_if.result

pub returns-clause-orderly : goal.returns-clause-orderly
returns-clause-orderly g c = base_orderly c.args.self.now c.requires.orderly c.requires.first c.push_if.new.listings c.root.result c.sorted_if.result
    c.root.ensures (c.sorted_if.ensures.fair [] c.in_ok-item.ensures.fair.folder) c.push_if.ensures

pub returns-clause-goes_on : goal.returns-clause-goes_on
returns-clause-goes_on g c =
    base_goes_on c.args.self.now c.requires.orderly c.requires.first c.push_if.new.listings c.root.result c.sorted_if.result c.root.ensures
    (c.sorted_if.ensures.fair [] c.in_ok-item.ensures.fair.folder) c.push_if.ensures c.in_ok-item.field-0.item c.step_of.result c.step_of.ensures c.in_ok-item.ensures.fair.item

pub returns-clause-there : goal.returns-clause-there
returns-clause-there g c =
    base_there c.args.self.now c.requires.orderly c.requires.first c.push_if.new.listings c.root.result c.sorted_if.result c.root.ensures
    (c.sorted_if.ensures.fair [] c.in_ok-item.ensures.fair.folder) c.push_if.ensures c.in_ok-item.field-0.item c.step_of.result c.step_of.ensures

pub returns-clause-told : goal.returns-clause-told
returns-clause-told g c = λ h root over further.
    let v = (c.in_ok-item.ensures.told h root over further).gives in
    let pile = c.sorted_if.ensures.told root [] (ordinary root [] c.in_ok-item.field-0.folder c.in_ok-item.ensures.fair.folder) v.1.folder in
    base_told c.args.self.now c.requires.orderly c.requires.first c.push_if.new.listings c.root.result c.sorted_if.result c.root.ensures
    (c.sorted_if.ensures.fair [] c.in_ok-item.ensures.fair.folder) c.push_if.ensures c.in_ok-item.field-0.item c.step_of.result c.step_of.ensures further root
    (g.T.Tree.state c.args.store.now) (g.T.Tree.state c.visit_base.new.store) v.0 v.1.item pile
