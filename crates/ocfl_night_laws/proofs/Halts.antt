-- When a place ends a night, and how often the store had failed there.
use Rattle.std.proofs.Common.{ℕ, ◌≡◌, ◌≢◌, ◌⊎◌, inl, inr, ◌+◌, ◌≤◌, ◌<◌, List, [], ◌∷◌, ◌++◌, Bool, true, false, Option, Some, None, refl, sym, ◌∙◌, ap, subst, arith, length}
use Rattle.std.proofs.{lemmas.Bool.Decides.{nat_tests}, lemmas.List.{append_cancel_left}}
use Rattle.std.specs.Prelude.{◌&&◌, ◌||◌, IsTrue, flat_map, if◌then◌else◌, nat_le, nat_lt}
use Rattle.ocfl_tree.specs.{Place.{Place, place_eq}, Store.{Store}}
use Rattle.ocfl_tree.proofs.Places.{place_eq-Decides, place_eq-same}
use Rattle.ocfl_item.specs.declared.fault.Fault.TheVariants as fault
use Rattle.ocfl_state.specs.{Checkpoint.{Checkpoint}, Content.{Content}}
use Rattle.ocfl_night.specs.{Beginning.{Position, StandsAt}, Done.{Done, nothing_done, with_begun, with_made}}
use Rattle.ocfl_terms.specs.Clock.{Event, Heard}
use Rattle.ocfl_night.specs.Halting.{AreFailed, stopped_at, stops_at}
use Rattle.ocfl_night_laws.specs.Halts.{HaltsAt, IsHaltedAt, NothingHelps, again, asked, often, stopped, unread}
use Rattle.ocfl_night.specs.{Leaving.{branch_at, branch_for, done_by, has_end, is_at, remedy_at, remedy_by, tried_by}, Looks.{failed_at}}
use Rattle.ocfl_report.specs.declared.further.Further.{Further}
use Rattle.ocfl_night.specs.Runs.{Run, Turn, AreRunsOf, EndsBy, IsBegunNight, IsHalted, after_end, after_made, events_of, turn}
use Rattle.ocfl_terms.specs.{declared.plan.Halt.{Halt}, declared.plan.NightEnd.{NightEnd}, declared.plan.Plan.{Plan}, declared.stop.Stop.{Stop}}
use Rattle.ocfl_night.specs.{declared.pause.Pause.{Pause}, declared.tally.Remedy.{Remedy}}
use Rattle.ocfl_terms.specs.{declared.made.Made.{Made}, declared.made.SliceEnd.{SliceEnd}}
use Rattle.ocfl_night.specs.Ending.{place_or_pause}
use Rattle.ocfl_terms.specs.declared.plan.Halt.TheVariants as halt
use Rattle.ocfl_night.specs.declared.pause.Pause.TheVariants as pause
use Rattle.ocfl_terms.specs.declared.made.SliceEnd.TheVariants as slice
use Rattle.ocfl_night.specs.declared.tally.Remedy.TheVariants as remedy
use Rattle.ocfl_night.proofs.Halting.{stops_append}

-- ---- when nothing helps

-- for a branch
no_branch : (left : List Place) (p : Place) → remedy_by (branch_for left p) ≡ remedy.Halt → (16 ≤ length left) ⊎ (has_end (branch_at p) ≡ false)
no_branch left p is = by (nat_lt (length left) 16) (has_end (branch_at p)) refl refl is
  where
    by : (few ends : Bool) → nat_lt (length left) 16 ≡ few → has_end (branch_at p) ≡ ends → remedy_by (if few && ends then Some (branch_at p) else None) ≡ remedy.Halt → (16 ≤ length left) ⊎ (has_end (branch_at p) ≡ false)
    by false ends f e h = inl (grind (arith, nat_tests))
    by true false f e h = inr e
    by true true f e h = absurd (cc h)

branch_no : (left : List Place) (p : Place) → (16 ≤ length left) ⊎ (has_end (branch_at p) ≡ false) → remedy_by (branch_for left p) ≡ remedy.Halt
branch_no left p (inl many) =
    let full : nat_lt (length left) 16 ≡ false = grind (arith, nat_tests) in
    ap (λ (b : Bool). remedy_by (if b && has_end (branch_at p) then Some (branch_at p) else None)) full
branch_no left p (inr none) = by (nat_lt (length left) 16)
  where
    by : (few : Bool) → remedy_by (if few && has_end (branch_at p) then Some (branch_at p) else None) ≡ remedy.Halt
    by true = ap (λ (b : Bool). remedy_by (if b then Some (branch_at p) else None)) none
    by false = refl

nothing_helps : (strict : Bool) (d : Done) (p : Place) → remedy_at strict d p ≡ remedy.Halt → NothingHelps strict d p
nothing_helps strict d p is = by strict (nat_le 64 d.stops) refl refl is
  where
    tried : (o : Option Place) → d.tried ≡ o → (if is_at o p then remedy_by (branch_for d.left p) else remedy.TryAgain) ≡ remedy.Halt → NothingHelps strict d p
    tried None e h = absurd (cc h)
    tried (Some q) e h = at (place_eq q p) refl h
      where
        at : (b : Bool) → place_eq q p ≡ b → (if b then remedy_by (branch_for d.left p) else remedy.TryAgain) ≡ remedy.Halt → NothingHelps strict d p
        at true same h = again (e ∙ ap Some ((place_eq-Decides q p).0 same)) (no_branch d.left p h)
        at false other h = absurd (cc h)

    by : (a b : Bool) → strict ≡ a → nat_le 64 d.stops ≡ b → (if a || b then remedy.Halt else (if is_at d.tried p then remedy_by (branch_for d.left p) else remedy.TryAgain)) ≡ remedy.Halt → NothingHelps strict d p
    by true b e f h = asked e
    by false true e f h = often (grind (arith, nat_tests))
    by false false e f h = tried d.tried refl h

helps_not : (strict : Bool) (d : Done) (p : Place) → NothingHelps strict d p → remedy_at strict d p ≡ remedy.Halt
helps_not strict d p (asked is) = ap (λ (b : Bool). if b || nat_le 64 d.stops then remedy.Halt else (if is_at d.tried p then remedy_by (branch_for d.left p) else remedy.TryAgain)) is
helps_not strict d p (often many) = by strict (nat_le 64 d.stops) (grind (arith, nat_tests))
  where
    by : (a b : Bool) → b ≡ true → (if a || b then remedy.Halt else (if is_at d.tried p then remedy_by (branch_for d.left p) else remedy.TryAgain)) ≡ remedy.Halt
    by true b is = refl
    by false true is = refl
    by false false is = absurd (cc is)
helps_not strict d p (again is none) = by (strict || nat_le 64 d.stops)
  where
    there : is_at d.tried p ≡ true
    there = ap (λ (o : Option Place). is_at o p) is ∙ place_eq-same p

    by : (a : Bool) → (if a then remedy.Halt else (if is_at d.tried p then remedy_by (branch_for d.left p) else remedy.TryAgain)) ≡ remedy.Halt
    by true = refl
    by false = ap (λ (b : Bool). if b then remedy_by (branch_for d.left p) else remedy.TryAgain) there ∙ branch_no d.left p none

-- ---- a run that halts a night at a place

module _ (strict : Bool) (d : Done) (made : Made) (p : Place) where
  halts_at : (after_made strict d made).pause ≡ Some (pause.Stopped (fault.Store p)) → HaltsAt strict d made p
  halts_at is = by made.end refl is
    where
      done : (q : Place) (r : Remedy) → made.end ≡ slice.Stopped (fault.Store q) → remedy_at strict d q ≡ r → (done_by made.checkpoint q r).1 ≡ Some (pause.Stopped (fault.Store p)) → HaltsAt strict d made p
      done q remedy.TryAgain at e h = absurd (cc h)
      done q (remedy.LeaveOut branch) at e h = absurd (cc h)
      done q remedy.Halt at e h =
          let same : q ≡ p = cc h in
          subst (λ (x : Place). made.end ≡ slice.Stopped (fault.Store x) → remedy_at strict d x ≡ remedy.Halt → HaltsAt strict d made p) (sym same) (λ there none. stopped there (nothing_helps strict d p none)) at e

      by : (end : SliceEnd) → made.end ≡ end → (after_end strict d made.checkpoint (place_or_pause end)).pause ≡ Some (pause.Stopped (fault.Store p)) → HaltsAt strict d made p
      by slice.Ended e h = absurd (cc h)
      by slice.Spent e h = absurd (cc h)
      by (slice.Stopped (fault.Store q)) e h = done q (remedy_at strict d q) e refl h
      by (slice.Stopped fault.Memory) e h = absurd (cc h)
      by (slice.Unread q) e h = let same : q ≡ p = cc h in unread (e ∙ ap slice.Unread same)
      by slice.RootChanged e h = absurd (cc h)

  at_halts : HaltsAt strict d made p → (after_made strict d made).pause ≡ Some (pause.Stopped (fault.Store p))
  at_halts (unread is) = ap (λ (end : SliceEnd). (after_end strict d made.checkpoint (place_or_pause end)).pause) is
  at_halts (stopped is none) =
      ap (λ (end : SliceEnd). (after_end strict d made.checkpoint (place_or_pause end)).pause) is ∙ ap (λ (r : Remedy). (done_by made.checkpoint p r).1) (helps_not strict d p none)

  halted_there : HaltsAt strict d made p → stopped_at made.end ≡ Some p
  halted_there (unread is) = ap stopped_at is
  halted_there (stopped is none) = ap stopped_at is

pub halts_exactly : (strict : Bool) (d : Done) (made : Made) (p : Place) → ((after_made strict d made).pause ≡ Some (pause.Stopped (fault.Store p)) → HaltsAt strict d made p) × (HaltsAt strict d made p → (after_made strict d made).pause ≡ Some (pause.Stopped (fault.Store p)))
halts_exactly strict d made p = (halts_at strict d made p, at_halts strict d made p)

-- ---- a night that stopped at a place

abbrev run_at : ℕ → Made → Run
run_at n made = record { now = n; made = made }

run_by : (n m : ℕ) (a b : Made) → n ≡ m → a ≡ b → run_at n a ≡ run_at m b
run_by n m a b time made = ap (λ (x : ℕ). run_at x a) time ∙ ap (λ (x : Made). run_at m x) made

same_run : (r q : Run) → events_of r ≡ events_of q → r ≡ q
same_run r q is = run_by r.now q.now r.made q.made (cc is) (cc is)

module _ (Left : Position → Type 0) (plan : Plan) (e d : Done) (k : Checkpoint) (last : List Event) (p : Place) where
  night_halted : (h : Halt) → h ≡ halt.Stopped (fault.Store p) → EndsBy Left plan h e d k last → IsHaltedAt plan d k last p
  night_halted h is ends =
      let halted = subst (λ (x : Halt). EndsBy Left plan x e d k last) is ends in
      let it = halted.1.0 in
      record { run = it.run; is = it.is; events = it.events; halts = halts_at plan.stop_at_faults _ it.run.made p (ap (λ (x : Turn). x.pause) it.halts) }

  -- what halts it, by the run that did
  halted_by : (h : IsHaltedAt plan d k last p) (why : Pause) (l : Checkpoint) → IsHalted plan d k last why e l → why ≡ pause.Stopped (fault.Store p)
  halted_by h why l it =
      let same = same_run it.run h.run (sym it.events ∙ h.events) in
      let pauses = at_halts plan.stop_at_faults _ h.run.made p h.halts in
      let it_pauses = ap (λ (x : Turn). x.pause) it.halts in
      let both : Some why ≡ Some (pause.Stopped (fault.Store p)) = sym it_pauses ∙ ap (λ (x : Run). (turn plan d x).pause) same ∙ pauses in
      cc both

  halted_night : (h : Halt) → ((why : Stop) → h ≢ halt.Troubled why) → EndsBy Left plan h e d k last → IsHaltedAt plan d k last p → h ≡ halt.Stopped (fault.Store p)
  halted_night (halt.CycleEnded cycle) well ends h = let none = sym ends.1 ∙ h.events in absurd (cc none)
  halted_night halt.TimeUp well ends h = let other = sym ends.1.0.1.1.0 ∙ h.events in absurd (cc other)
  halted_night halt.Spent well ends h = let other = sym ends.1.0.1.1.0 ∙ h.events in absurd (cc other)
  halted_night halt.Asked well ends h = let other = sym ends.1.0.1 ∙ h.events in absurd (cc other)
  halted_night (halt.Stopped why) well ends h = let same : pause.Stopped why ≡ pause.Stopped (fault.Store p) = halted_by h (pause.Stopped why) ends.0 ends.1.0 in cc same
  halted_night halt.RootChanged well ends h = let other = halted_by h pause.RootChanged ends.0 ends.1.0 in absurd (cc other)
  halted_night (halt.Refused why) well ends h = absurd ends
  halted_night (halt.Troubled why) well ends h = absurd (well why refl)

-- the place that is tried once more is that at which the last run stopped
tried_after : (strict : Bool) (d : Done) (made : Made) (p : Place) → (after_made strict d made).done.tried ≡ Some p → stopped_at made.end ≡ Some p
tried_after strict d made p is = by made.end refl is
  where
    done : (q : Place) (r : Remedy) → made.end ≡ slice.Stopped (fault.Store q) → tried_by q r ≡ Some p → stopped_at made.end ≡ Some p
    done q remedy.TryAgain at h = ap stopped_at at ∙ h
    done q (remedy.LeaveOut branch) at h = absurd (cc h)
    done q remedy.Halt at h = absurd (cc h)

    by : (end : SliceEnd) → made.end ≡ end → (after_end strict d made.checkpoint (place_or_pause end)).done.tried ≡ Some p → stopped_at made.end ≡ Some p
    by slice.Ended e h = absurd (cc h)
    by slice.Spent e h = absurd (cc h)
    by (slice.Stopped (fault.Store q)) e h = done q (remedy_at strict d q) e h
    by (slice.Stopped fault.Memory) e h = absurd (cc h)
    by (slice.Unread q) e h = absurd (cc h)
    by slice.RootChanged e h = absurd (cc h)

one_stop : (p : Place) (made : Made) (events : List Event) → stopped_at made.end ≡ Some p → stops_at p (Heard made ∷ events) ≡ 1 + stops_at p events
one_stop p made events at =
    ap (λ (o : Option Place). (if is_at o p then 1 else 0) + stops_at p events) at ∙ ap (λ (b : Bool). (if b then 1 else 0) + stops_at p events) (place_eq-same p)

tried_stops : (plan : Plan) (p : Place) (d : Done) (k : Checkpoint) (runs : List Run) (e : Done) (l : Checkpoint) → AreRunsOf plan d k runs e l → e.tried ≡ Some p → (d.tried ≡ Some p) ⊎ (1 ≤ stops_at p (flat_map events_of runs))
tried_stops plan p d k [] e l made is = inl (ap (λ (x : Done). x.tried) (sym made.0) ∙ is)
tried_stops plan p d k (r ∷ runs) e l made is = by (tried_stops plan p (turn plan d r).done (turn plan d r).checkpoint runs e l made.2 is)
  where
    by : ((turn plan d r).done.tried ≡ Some p) ⊎ (1 ≤ stops_at p (flat_map events_of runs)) → (d.tried ≡ Some p) ⊎ (1 ≤ stops_at p (flat_map events_of (r ∷ runs)))
    by (inl next) = let one = one_stop p r.made (flat_map events_of runs) (tried_after plan.stop_at_faults _ r.made p next) in inr (omega (arith, one))
    by (inr more) = inr (omega (arith, more))

module _ {further : Further} {plan : Plan} {tells : Bool} {c d : Content} {old new : List Event} {end : NightEnd} (p : Place) (n : IsBegunNight further plan tells c d old new end) where
  pub stopped_exactly : ((why : Stop) → end.end ≢ halt.Troubled why) → (end.end ≡ halt.Stopped (fault.Store p) → IsHaltedAt plan n.runs.done n.runs.checkpoint n.runs.last p) × (IsHaltedAt plan n.runs.done n.runs.checkpoint n.runs.last p → end.end ≡ halt.Stopped (fault.Store p))
  stopped_exactly well = (
    λ is. night_halted (λ x. IsTrue tells → StandsAt d x) plan n.done n.runs.done n.runs.checkpoint n.runs.last p end.end is n.runs.ends,
    λ h. halted_night (λ x. IsTrue tells → StandsAt d x) plan n.done n.runs.done n.runs.checkpoint n.runs.last p end.end well n.runs.ends h,
  )

  module _ {s t : Store} (failed : AreFailed old new s t) (h : IsHaltedAt plan n.runs.done n.runs.checkpoint n.runs.last p) where
    abbrev before : List Event
    before = flat_map events_of n.runs.runs

    all : failed_at p s + (stops_at p before + 1) ≤ failed_at p t
    all =
        let same : failed.events ≡ before ++ n.runs.last = append_cancel_left old failed.events (before ++ n.runs.last) (sym failed.are ∙ n.runs.events) in
        let both = ap (stops_at p) same ∙ stops_append p before n.runs.last in
        let last = ap (stops_at p) h.events ∙ one_stop p h.run.made [] (halted_there plan.stop_at_faults _ h.run.made p h.halts) in
        let each = failed.each p in
        omega (arith, both, last, each)

    pub failed_once : failed_at p s + 1 ≤ failed_at p t
    failed_once = let it = all in omega (arith, it)

    pub failed_twice : h.run.made.end ≡ slice.Stopped (fault.Store p) → plan.stop_at_faults ≡ false → n.runs.done.stops < 64 → failed_at p s + 2 ≤ failed_at p t
    failed_twice is lax few = by h.halts
      where
        first : n.runs.done.tried ≡ Some p → failed_at p s + 2 ≤ failed_at p t
        first tried = by (tried_stops plan p nothing_done n.start n.runs.runs n.runs.done n.runs.checkpoint n.runs.made tried)
          where
            by : (None ≡ Some p) ⊎ (1 ≤ stops_at p before) → failed_at p s + 2 ≤ failed_at p t
            by (inl none) = absurd (cc none)
            by (inr more) = let it = all in omega (arith, it, more)

        helps : NothingHelps plan.stop_at_faults n.runs.done p → failed_at p s + 2 ≤ failed_at p t
        helps (asked strict) = let both = sym strict ∙ lax in absurd (cc both)
        helps (often many) = absurd (omega (arith, many, few))
        helps (again tried none) = first tried

        by : HaltsAt plan.stop_at_faults (with_made h.run.made (with_begun h.run.now n.runs.done)) h.run.made p → failed_at p s + 2 ≤ failed_at p t
        by (unread other) = let both = sym is ∙ other in absurd (cc both)
        by (stopped at (asked strict)) = helps (asked strict)
        by (stopped at (often many)) = helps (often many)
        by (stopped at (again tried none)) = helps (again tried none)
