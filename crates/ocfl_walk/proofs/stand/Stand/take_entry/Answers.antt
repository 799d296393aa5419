use Rattle.std.proofs.{Common.{Some}, lemmas.Result.{err_from_is_err_and}}
use Rattle.ocfl_walk.proofs.DueTurns.{near_turn}
use Rattle.ocfl_walk.proofs.StandSteps.{entry_around, entry_fits, entry_goes_on, entry_is_behind, entry_is_met, entry_orderly, entry_there, entry_told}
use Rattle.ocfl_walk.proofs.WalkCallLaws.{meets_fails}
use Rattle.ocfl_walk.proofs.stand.Stand.take_entry.Goals as goal

pub returns-in_err-item-clause-told : goal.returns-in_err-item-clause-told
returns-in_err-item-clause-told g c = λ h root over stood last e is turn.
    let p = err_from_is_err_and c.from_residual.result c.from_residual.ensures.1 in
    let met = entry_is_met c.args.self.now c.in-Some.entry c.args.place c.take_entry.new.listings c.requires.orderly c.requires.next
    c.in-Some.ensures.taken _ c.take-around.ensures.value c.args.further root stood e is in
    let behind = entry_is_behind c.args.self.now c.in-Some.entry c.args.place c.take_entry.new.listings c.requires.orderly c.requires.next
    c.in-Some.ensures.taken c.args.further root stood last e is turn c.left_beside-behind.result.now (c.left_beside-behind.ensures _) in
    rw (p.1, p.2) (meets_fails c.args.further root (g.T.Tree.state c.args.store.now) (g.T.Tree.state c.meet.new.store) (Some last) c.args.place
    (near_turn c.args.further root last c.args.place _ turn) _ (c.in_err-item.ensures.told h root over _ met behind))

pub push_if-requires : goal.push_if-requires
push_if-requires g c = entry_fits c.args.self.now c.in-Some.entry c.args.place c.take_entry.new.listings c.requires.orderly c.requires.next
    c.in-Some.ensures.taken c.in-Some.ensures.count c.in_ok-item.field-0
    (c.in_ok-item.ensures.fair (entry_around c.args.self.now c.in-Some.entry c.args.place c.take_entry.new.listings c.requires.orderly c.requires.next
    c.in-Some.ensures.taken _ c.take-around.ensures.value))

pub returns-clause-orderly : goal.returns-clause-orderly
returns-clause-orderly g c = entry_orderly c.args.self.now c.in-Some.entry c.args.place c.take_entry.new.listings c.requires.orderly c.requires.next
    c.in-Some.ensures.taken c.in-Some.ensures.count c.in_ok-item.field-0
    (c.in_ok-item.ensures.fair (entry_around c.args.self.now c.in-Some.entry c.args.place c.take_entry.new.listings c.requires.orderly c.requires.next
    c.in-Some.ensures.taken _ c.take-around.ensures.value)) c.push_if.new.listings c.push_if.ensures

pub returns-clause-goes_on : goal.returns-clause-goes_on
returns-clause-goes_on g c = entry_goes_on c.args.self.now c.in-Some.entry c.args.place c.take_entry.new.listings c.requires.orderly c.requires.next
    c.in-Some.ensures.taken c.in-Some.ensures.count c.in_ok-item.field-0
    (c.in_ok-item.ensures.fair (entry_around c.args.self.now c.in-Some.entry c.args.place c.take_entry.new.listings c.requires.orderly c.requires.next
    c.in-Some.ensures.taken _ c.take-around.ensures.value)) c.push_if.new.listings c.push_if.ensures c.step_of.result c.step_of.ensures

pub returns-clause-there : goal.returns-clause-there
returns-clause-there g c = entry_there c.args.self.now c.in-Some.entry c.args.place c.take_entry.new.listings c.requires.orderly c.requires.next
    c.in-Some.ensures.taken c.in-Some.ensures.count c.in_ok-item.field-0
    (c.in_ok-item.ensures.fair (entry_around c.args.self.now c.in-Some.entry c.args.place c.take_entry.new.listings c.requires.orderly c.requires.next
    c.in-Some.ensures.taken _ c.take-around.ensures.value)) c.push_if.new.listings c.push_if.ensures c.step_of.result c.step_of.ensures

pub returns-clause-told : goal.returns-clause-told
returns-clause-told g c = λ h root over stood last e is turn.
    let met = entry_is_met c.args.self.now c.in-Some.entry c.args.place c.take_entry.new.listings c.requires.orderly c.requires.next
    c.in-Some.ensures.taken _ c.take-around.ensures.value c.args.further root stood e is in
    let behind = entry_is_behind c.args.self.now c.in-Some.entry c.args.place c.take_entry.new.listings c.requires.orderly c.requires.next
    c.in-Some.ensures.taken c.args.further root stood last e is turn c.left_beside-behind.result.now (c.left_beside-behind.ensures _) in
    let m = c.in_ok-item.ensures.told h root over _ met behind in
    entry_told c.args.self.now c.in-Some.entry c.args.place c.take_entry.new.listings c.requires.orderly c.requires.next c.in-Some.ensures.taken
    c.in-Some.ensures.count c.in_ok-item.field-0
    (c.in_ok-item.ensures.fair (entry_around c.args.self.now c.in-Some.entry c.args.place c.take_entry.new.listings c.requires.orderly c.requires.next
    c.in-Some.ensures.taken _ c.take-around.ensures.value)) c.push_if.new.listings c.push_if.ensures c.step_of.result c.step_of.ensures c.args.further root
    (g.T.Tree.state c.args.store.now) (g.T.Tree.state c.meet.new.store) last stood is turn m.0 m.1
