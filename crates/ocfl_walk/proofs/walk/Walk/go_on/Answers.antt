use Rattle.std.proofs.{Common.{◌∙◌, refl, subst, sym, Some}, lemmas.Result.{err_from_is_err_and}}
use Rattle.ocfl_walk.specs.{Internal.Walking.{GoesAt, StepsAt}, declared.walk.Walk.{Walk}}
use Rattle.ocfl_walk.proofs.{OrderlyTests.{orderly_from, orderly_to}, WalkCallLaws.{walks_over}}
use Rattle.ocfl_walk.proofs.WalkWords.{before, begins_end, begins_fails, begins_item, begins_then_told, goes_first, goes_ok, goes_then_ok, parts}
use Rattle.ocfl_walk.proofs.walk.Walk.go_on.Goals as goal

pub next-requires : goal.next-requires
next-requires g c = orderly_from c.args.self.now.stand c.args.self.now.orderly

pub invariant_of-self : goal.invariant_of-self
invariant_of-self g c = record { orderly = orderly_to c.next.new.self c.next.ensures.orderly }

pub returns-in_default-clause-goes_on : goal.returns-in_default-clause-goes_on
returns-in_default-clause-goes_on g c = goes_ok c.args.self.now _ c.take.ensures.after c.next.result c.next.ensures.goes_on

pub step_to-requires : goal.step_to-requires
step_to-requires g c = orderly_from c.args.self.now.stand c.args.self.now.orderly

pub invariant_of-self-in-Break-1 : goal.invariant_of-self-in-Break-1
invariant_of-self-in-Break-1 g c = record { orderly = orderly_to c.step_to.new.self c.step_to.ensures.orderly }

pub returns-in_err-item-clause-told : goal.returns-in_err-item-clause-told
returns-in_err-item-clause-told g c = λ h root over last st.
    let parts_are = parts c.args.self.now.further root c.args.self.now c.in-Some.name (sym c.take.ensures.value ∙ c.in-Some.is) last st in
    let first = before c.args.self.now.further root c.args.self.now c.in-Some.name (sym c.take.ensures.value ∙ c.in-Some.is) last st in
    let p = err_from_is_err_and c.from_residual.result c.from_residual.ensures.1 in
    rw (p.1, p.2) (begins_fails c.args.self.now.further root c.args.self.now c.in-Some.name (sym c.take.ensures.value ∙ c.in-Some.is) last st (g.T.Tree.state c.args.store.now)
    (g.T.Tree.state c.step_to.new.store) c.args.end.now _ (c.in_err-item.ensures.told h root over parts_are.0 first.0 parts_are.1 first.1))

pub invariant_of-self-in-Item-1 : goal.invariant_of-self-in-Item-1
invariant_of-self-in-Item-1 g c = record { orderly = orderly_to c.step_to.new.self c.step_to.ensures.orderly }

pub invariant_of-self-in-Nothing-1 : goal.invariant_of-self-in-Nothing-1
invariant_of-self-in-Nothing-1 g c = record { orderly = orderly_to c.next-in-Nothing.new.self c.next-in-Nothing.ensures.orderly }

pub returns-in-Item-clause-goes_on : goal.returns-in-Item-clause-goes_on
returns-in-Item-clause-goes_on g c =
    goes_first c.args.self.now _ c.take.ensures.after c.in-Some.name (sym c.take.ensures.value ∙ c.in-Some.is) c.in-Item.item
    (subst (λ x. GoesAt c.args.self.now.stand c.step_to.new.self x) c.in-Item.is c.in_ok-item.ensures.goes_on)

pub returns-in-Item-clause-told : goal.returns-in-Item-clause-told
returns-in-Item-clause-told g c = λ h root over last st.
    let parts_are = parts c.args.self.now.further root c.args.self.now c.in-Some.name (sym c.take.ensures.value ∙ c.in-Some.is) last st in
    let first = before c.args.self.now.further root c.args.self.now c.in-Some.name (sym c.take.ensures.value ∙ c.in-Some.is) last st in
    let new : Walk = record
    { alloc = c.args.self.now.alloc; further = c.args.self.now.further; stand = c.step_to.new.self; first = c.take.new.self; orderly = orderly_to c.step_to.new.self c.step_to.ensures.orderly } in
    begins_item c.args.self.now.further root c.args.self.now c.in-Some.name (sym c.take.ensures.value ∙ c.in-Some.is) last st (g.T.Tree.state c.args.store.now)
    (g.T.Tree.state c.step_to.new.store) c.args.end.now new c.in-Item.item refl c.take.ensures.after
    (subst (λ x. StepsAt c.args.self.now.further root (g.T.Tree.state c.args.store.now) (g.T.Tree.state c.step_to.new.store) first.0 c.args.end.now c.args.self.now.stand
    c.step_to.new.self x) c.in-Item.is (c.in_ok-item.ensures.told h root over parts_are.0 first.0 parts_are.1 first.1))

pub returns-in-Nothing-clause-goes_on : goal.returns-in-Nothing-clause-goes_on
returns-in-Nothing-clause-goes_on g c =
    goes_then_ok c.args.self.now _ c.take.ensures.after c.in-Some.name (sym c.take.ensures.value ∙ c.in-Some.is) c.step_to.new.self c.next-in-Nothing.result
    (subst (λ x. GoesAt c.args.self.now.stand c.step_to.new.self x) c.in-Nothing.is c.in_ok-item.ensures.goes_on) c.next-in-Nothing.ensures.goes_on

pub returns-in-Nothing-clause-told : goal.returns-in-Nothing-clause-told
returns-in-Nothing-clause-told g c = λ h root over last st.
    let parts_are = parts c.args.self.now.further root c.args.self.now c.in-Some.name (sym c.take.ensures.value ∙ c.in-Some.is) last st in
    let first = before c.args.self.now.further root c.args.self.now c.in-Some.name (sym c.take.ensures.value ∙ c.in-Some.is) last st in
    let new : Walk = record {
      alloc = c.args.self.now.alloc;
      further = c.args.self.now.further;
      stand = c.next-in-Nothing.new.self;
      first = c.take.new.self;
      orderly = orderly_to c.next-in-Nothing.new.self c.next-in-Nothing.ensures.orderly;
    } in
    let came = (subst (λ x. StepsAt c.args.self.now.further root (g.T.Tree.state c.args.store.now) (g.T.Tree.state c.step_to.new.store) first.0 c.args.end.now
    c.args.self.now.stand c.step_to.new.self x) c.in-Nothing.is (c.in_ok-item.ensures.told h root over parts_are.0 first.0 parts_are.1 first.1)) in
    begins_then_told c.args.self.now.further root c.args.self.now c.in-Some.name (sym c.take.ensures.value ∙ c.in-Some.is) last st (g.T.Tree.state c.args.store.now)
    (g.T.Tree.state c.step_to.new.store) c.args.end.now (g.T.Tree.state c.next-in-Nothing.new.store) c.step_to.new.self came new refl c.take.ensures.after
    c.next-in-Nothing.result c.next-in-Nothing.ensures.goes_on
    (c.next-in-Nothing.ensures.told h root (walks_over c.args.self.now.further root (g.T.Tree.state c.args.store.now) (g.T.Tree.state c.step_to.new.store) (Some first.0) (Some came.0) came.1) (Some came.0) came.2)

pub returns-in-End-clause-told : goal.returns-in-End-clause-told
returns-in-End-clause-told g c = λ h root over last st.
    let parts_are = parts c.args.self.now.further root c.args.self.now c.in-Some.name (sym c.take.ensures.value ∙ c.in-Some.is) last st in
    let first = before c.args.self.now.further root c.args.self.now c.in-Some.name (sym c.take.ensures.value ∙ c.in-Some.is) last st in
    let new : Walk = record
    { alloc = c.args.self.now.alloc; further = c.args.self.now.further; stand = c.step_to.new.self; first = Some c.in-Some.name; orderly = orderly_to c.step_to.new.self c.step_to.ensures.orderly } in
    begins_end c.args.self.now.further root c.args.self.now c.in-Some.name (sym c.take.ensures.value ∙ c.in-Some.is) last st (g.T.Tree.state c.args.store.now)
    (g.T.Tree.state c.step_to.new.store) c.args.end.now new refl refl
    (subst (λ x. StepsAt c.args.self.now.further root (g.T.Tree.state c.args.store.now) (g.T.Tree.state c.step_to.new.store) first.0 c.args.end.now c.args.self.now.stand
    c.step_to.new.self x) c.in-End.is (c.in_ok-item.ensures.told h root over parts_are.0 first.0 parts_are.1 first.1))
