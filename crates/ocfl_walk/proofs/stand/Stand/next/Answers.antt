use Rattle.std.proofs.{Common.{refl, subst, inl}, lemmas.Result.{err_from_is_err_and}}
use Rattle.ocfl_walk.specs.{Standing.{piles_in, spot_of}, Internal.Walking.{GoesOn, IsBefore}}
use Rattle.ocfl_walk.specs.declared.stand.Stand.{Stand}
use Rattle.ocfl_walk.specs.declared.stand.Step.TheVariants as step
use Rattle.ocfl_walk.proofs.Chosen.{goes_from, mid_at, mid_orderly, sizes, trim_stays}
use Rattle.ocfl_walk.proofs.StandLaws.{onward_step, onward_item, so_far_step, so_far_item, so_far_end, so_far_fails}
use Rattle.ocfl_walk.proofs.stand.Stand.next.Goals as goal

pub loop-item-init : goal.loop-item-init
loop-item-init g c = record { orderly = c.requires; onward = inl refl; told = λ h root over last st. inl (refl, st) }

pub step-requires-clause-orderly : goal.step-requires-clause-orderly
step-requires-clause-orderly g c = mid_orderly _ _ c.loop-item.self.around (c.drop_empty.ensures (spot_of c.loop-item.self.last)) c.loop-item.self.last c.loop-item.invariant.orderly

pub step-requires-clause-trim : goal.step-requires-clause-trim
step-requires-clause-trim g c = trim_stays (piles_in c.loop-item.self.last c.loop-item.self.listings.items) _ (c.drop_empty.ensures (spot_of c.loop-item.self.last))

pub returns-in_err-item-clause-told : goal.returns-in_err-item-clause-told
returns-in_err-item-clause-told g c = λ h root over last st.
    let p = err_from_is_err_and c.from_residual.result c.from_residual.ensures.1 in
    rw (p.1, p.2) (so_far_fails c.args.further root (g.T.Tree.state c.args.store.now) (g.T.Tree.state c.loop-item.store) (g.T.Tree.state c.step.new.store) last c.args.end.now
    c.loop-item.self c.step.new.self over (c.loop-item.invariant.told h root over last st) _
    (λ there l stands. c.in_err-item.ensures.told h root there l (mid_at c.args.further root c.loop-item.self c.drop_empty.new.listings (c.drop_empty.ensures (spot_of c.loop-item.self.last)) l stands)))

pub returns-in-Item-clause-goes_on : goal.returns-in-Item-clause-goes_on
returns-in-Item-clause-goes_on g c =
    let mid : Stand = record { listings = c.drop_empty.new.listings; around = c.loop-item.self.around; last = c.loop-item.self.last } in
    onward_item c.args.self.now c.loop-item.self c.step.new.self c.in-Item.item c.loop-item.invariant.onward
    (goes_from c.loop-item.self mid c.step.new.self refl (sizes c.loop-item.self mid refl refl (c.drop_empty.ensures (spot_of c.loop-item.self.last))) (step.Item c.in-Item.item)
    (subst (λ s. GoesOn mid c.step.new.self s) c.in-Item.is c.in_ok-item.ensures.goes_on))

pub returns-in-Item-clause-told : goal.returns-in-Item-clause-told
returns-in-Item-clause-told g c = λ h root over last st.
    so_far_item c.args.further root (g.T.Tree.state c.args.store.now) (g.T.Tree.state c.loop-item.store) (g.T.Tree.state c.step.new.store) last c.args.end.now c.loop-item.self
    c.step.new.self over (c.loop-item.invariant.told h root over last st) _
    (λ there l stands. c.in_ok-item.ensures.told h root there l (mid_at c.args.further root c.loop-item.self c.drop_empty.new.listings (c.drop_empty.ensures (spot_of c.loop-item.self.last)) l stands)) c.in-Item.item c.in-Item.is

pub returns-in-End-clause-told : goal.returns-in-End-clause-told
returns-in-End-clause-told g c = λ h root over last st.
    so_far_end c.args.further root (g.T.Tree.state c.args.store.now) (g.T.Tree.state c.loop-item.store) (g.T.Tree.state c.step.new.store) last c.args.end.now c.loop-item.self
    c.step.new.self over (c.loop-item.invariant.told h root over last st) _
    (λ there l stands. c.in_ok-item.ensures.told h root there l (mid_at c.args.further root c.loop-item.self c.drop_empty.new.listings (c.drop_empty.ensures (spot_of c.loop-item.self.last)) l stands)) c.in-End.is

pub loop-item-smaller : goal.loop-item-smaller
loop-item-smaller g c =
    let mid : Stand = record { listings = c.drop_empty.new.listings; around = c.loop-item.self.around; last = c.loop-item.self.last } in
    (goes_from c.loop-item.self mid c.step.new.self refl (sizes c.loop-item.self mid refl refl (c.drop_empty.ensures (spot_of c.loop-item.self.last))) step.Nothing
    (subst (λ s. GoesOn mid c.step.new.self s) c.in-Nothing.is c.in_ok-item.ensures.goes_on)).3

pub loop-item-preserved : goal.loop-item-preserved
loop-item-preserved g c =
    let mid : Stand = record { listings = c.drop_empty.new.listings; around = c.loop-item.self.around; last = c.loop-item.self.last } in
    record {
      orderly = c.in_ok-item.ensures.orderly;
      onward = onward_step c.args.self.now c.loop-item.self c.step.new.self c.loop-item.invariant.onward
          (goes_from c.loop-item.self mid c.step.new.self refl (sizes c.loop-item.self mid refl refl (c.drop_empty.ensures (spot_of c.loop-item.self.last))) step.Nothing
          (subst (λ s. GoesOn mid c.step.new.self s) c.in-Nothing.is c.in_ok-item.ensures.goes_on));
      told = λ h root over last st. so_far_step c.args.further root (g.T.Tree.state c.args.store.now) (g.T.Tree.state c.loop-item.store) (g.T.Tree.state c.step.new.store) last
          c.args.end.now c.loop-item.self c.step.new.self over (c.loop-item.invariant.told h root over last st) _
          (λ there l stands. c.in_ok-item.ensures.told h root there l (mid_at c.args.further root c.loop-item.self c.drop_empty.new.listings (c.drop_empty.ensures (spot_of c.loop-item.self.last)) l stands)) c.in-Nothing.is;
    }

pub returns-in-Item-clause-before : goal.returns-in-Item-clause-before
returns-in-Item-clause-before g c = subst (λ q. IsBefore c.args.end.now c.step.new.self q) c.in-Item.is c.in_ok-item.ensures.before
