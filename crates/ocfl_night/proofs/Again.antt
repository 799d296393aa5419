-- What of a night may be opened again after a crash.
use Rattle.std.proofs.Common.{ℕ, ◌≡◌, ◌≢◌, ◌⊎◌, ⊎_elim, inl, inr, ◌+◌, ◌≤◌, ◌<◌, List, [], ◌∷◌, ◌++◌, Bool, true, false, Option, Some, None, Result, Ok, Err, refl, sym, ◌∙◌, ap, subst, arith, append_assoc}
use Rattle.std.proofs.lemmas.List.{append-nil}
use Rattle.std.specs.Prelude.{IfOk}
use Rattle.ocfl_tree.specs.{Place.{Text, Place, place_cmp}, Ascending.{IsAmong, IsAscending}, StorageRoot.{StorageRoot}, Store.{Store}}
use Rattle.ocfl_rules.specs.Parts.{Part}
use Rattle.ocfl_cursor.specs.{Cursor.{Cursor, State, ended}, declared.limits.Limits.{Limits}}
use Rattle.ocfl_scrub.specs.{Keeping.{met_at, met_in}, declared.kept.KeptWalk.{KeptWalk}}
use Rattle.ocfl_scrub.specs.{Joining.{is_taken}, Running.{begun, begun_in}, declared.running.RunEnd.{RunEnd}}
use Rattle.ocfl_scrub.specs.declared.running.RunStatus.{RunStatus}
use Rattle.ocfl_scrub.specs.declared.running.RunStatus.TheVariants as status
use Rattle.ocfl_state.specs.{Checkpoint.{Checkpoint}, Content.{Content}, Crash.{LeavesOnly, Outcomes, Passes, Step}}
use Rattle.ocfl_state.specs.declared.folder.StateFolder as state
use Rattle.ocfl_state.specs.declared.checkpoint_parts.{Phase.TheVariants.{Open, Closing}, ReportMark.{ReportMark}}
use Rattle.ocfl_night.specs.Again.{AreFew, AreLegs, GoesOn, HasDone, IsLittleAgain, IsMetAfter, TookOrBegan, Leg, heard_in, made_by, took_by}
use Rattle.ocfl_night.specs.Asking.{AskedFrom, GaveAll, IsMetBy, MayAskFrom, declaring}
use Rattle.ocfl_terms.specs.Clock.{Event, Asked, Read, Heard}
use Rattle.ocfl_night.specs.{Done.{Done}, Runs.{IsAllowed, Run, StopsOpen, Turn, after_end, after_made, events_of, turn_of}}
use Rattle.ocfl_night.specs.Ending.{IsAway, IsMadeBy, IsNextBy, IsSlice, IsUnkept, KeepsTo, cycle_in, cycle_of, place_or_pause, slice_end}
use Rattle.ocfl_night.specs.{Looks.{Counts, Rounds}, Promises.{IfThere}, Reading.{AreBeyond, AreTaken, StaysTaken, content_since, reached, reached_in}}
use Rattle.ocfl_night.specs.{Sound.{IsAt, IsReady, Stands}, Steps.{IsNext, MayCheckpoint, begun_anew, with_all_said, with_left}}
use Rattle.ocfl_night.specs.declared.pause.Pause.{Pause}
use Rattle.ocfl_terms.specs.{declared.plan.Plan.{Plan}, declared.made.Made.{Made}, declared.made.SliceEnd.{SliceEnd}, declared.stop.Stop.{Stop}}
use Rattle.ocfl_night.specs.declared.pause.Pause.TheVariants as pause
use Rattle.ocfl_night.specs.{Leaving.{done_by, remedy_at}, declared.tally.Remedy.{Remedy}}
use Rattle.ocfl_night.specs.declared.tally.Remedy.TheVariants as remedy
use Rattle.ocfl_terms.specs.declared.made.SliceEnd.TheVariants as slice
use Rattle.ocfl_tree.proofs.Stores.{among_either}
use Rattle.ocfl_rules.proofs.BelowLaws.{ascends_append}
use Rattle.ocfl_scrub.proofs.Lists.{ascends_left}
use Rattle.ocfl_night.proofs.{Beginnings.{cycle_next}, Foreigners.{at_once}, Moments.{OnlyNow, joined_moments, leaves, leaves_weaker, left_after, unmoved}}
use Rattle.ocfl_night.proofs.{Reading.{content_first_alone, content_none, reached_next, taken_below}, Runs.{stops_open}, Sound.{closing_of}}
use Rattle.ocfl_report.specs.declared.further.Further.{Further}

-- ---- checkpoints that go on from one another

pub goes_self : (k : Checkpoint) → GoesOn k k
goes_self k = inr (refl, record { each = λ p is. is })

-- two that stand at the same cursor, in the same phase
pub goes_same : (k l : Checkpoint) → cycle_of k ≡ cycle_of l → reached k ≡ reached l → GoesOn k l
goes_same k l cycle there = inr (cycle, subst (StaysTaken (reached k)) there (record { each = λ p is. is }))

pub goes_more : (k l m : Checkpoint) → GoesOn k l → GoesOn l m → GoesOn k m
goes_more k l m (inl less) (inl more) = inl (omega (arith, less, more))
goes_more k l m (inl less) (inr at) = inl (let same = at.0 in omega (arith, less, same))
goes_more k l m (inr at) (inl more) = inl (let same = at.0 in omega (arith, more, same))
goes_more k l m (inr at) (inr next) = inr (at.0 ∙ next.0, record { each = λ p is. next.1.each p (at.1.each p is) })

pub goes_left : (branch : Place) (k : Checkpoint) {next : Checkpoint} → next ≡ with_left branch k → GoesOn k next
goes_left branch k is = subst (GoesOn k) (sym is) (goes_same k (with_left branch k) refl refl)

pub goes_said : (k : Checkpoint) {next : Checkpoint} → next ≡ with_all_said k → GoesOn k next
goes_said k is = subst (GoesOn k) (sym is) (goes_same k (with_all_said k) refl refl)

pub done_more : (cycle : ℕ) (ps : List Place) (k l : Checkpoint) → HasDone cycle ps k → GoesOn k l → HasDone cycle ps l
done_more cycle ps k l (inl less) (inl more) = inl (omega (arith, less, more))
done_more cycle ps k l (inl less) (inr at) = inl (let same = at.0 in omega (arith, less, same))
done_more cycle ps k l (inr at) (inl more) = inl (let same = at.0 in omega (arith, more, same))
done_more cycle ps k l (inr at) (inr next) = inr (at.0 ∙ next.0, record { each = λ p i. next.1.each p (at.1.each p i) })

-- the next cycle is begun
pub goes_anew : {rounds : Rounds} {t : Text} {k next : Checkpoint} {c : Content} → k.phase ≡ Closing → Stands rounds t k c → next ≡ begun_anew k → GoesOn k next
goes_anew {k = k} ends stands is = subst (GoesOn k) (sym is) (inl (by (⊎_elim (λ h. h.ends) (λ h. h.ends) (closing_of ends stands))))
  where
    by : k.cursor.state ≡ ended → cycle_of k < cycle_of (begun_anew k)
    by at =
        let old : cycle_of k ≡ k.cursor.cycle = ap (λ p. cycle_in p k.cursor) ends in
        let new : cycle_of (begun_anew k) ≡ k.cursor.cycle + 1 = ap (λ (s : State). (begun_in k.cursor s).cycle) at in
        omega (arith, old, new)

-- a run was made
pub goes_next : {k next : Checkpoint} {c : Cursor} {limits : Limits} {ran : RunEnd} → k.phase ≡ Open → c ≡ k.cursor → KeepsTo c limits ran → StaysTaken (begun c).state ran.cursor.state → IsNextBy k ran next → GoesOn k next
goes_next {k} {next} {c} {limits} {ran} going same keeps stays is =
    inr (
      sym (cycle_next going (subst (λ (x : Cursor). KeepsTo x limits ran) same keeps) is.1),
      subst (StaysTaken (reached k)) (sym (reached_next keeps is.1)) (subst (λ (x : State). StaysTaken x ran.cursor.state) (sym (ap (λ p. reached_in p k.cursor) going ∙ ap (λ (x : Cursor). (begun x).state) (sym same))) stays),
    )

-- ---- the checkpoint that a crash leaves

module _ {F : Type 0} {S : state.Ghosts F} {rounds : Rounds} {t : Text} {k : Checkpoint} {f : F} where
  pub ready_there : (P : Checkpoint → Type 0) → P k → IsReady S rounds t k f → (c : Content) → S.may_leave f c → IfThere c P
  ready_there P holds r c left l at = subst P (at_once (subst (IsAt k) (sym (r.only c left)) r.at) at) holds

module _ {F : Type 0} (may_leave : F → Outcomes) (f : F) (P : Checkpoint → Type 0) (here : (c : Content) → may_leave f c → IfThere c P) where
  -- a call keeps it
  pub kept_there : {step : Step} → ((d c : Content) → step d c → c.checkpoint ≡ d.checkpoint) → (d c : Content) → may_leave f d → step d c → IfThere c P
  kept_there same d c left took l at = here d left l (record { bytes = at.bytes; is = sym (same d c took) ∙ at.is; text = at.text })

  -- or puts this one
  pub put_there : {next : Checkpoint} → P next → (d c : Content) → may_leave f d → MayCheckpoint next d c → IfThere c P
  put_there holds d c left (inl same) l at = here d left l (subst (IsAt l) same at)
  put_there {next} holds d c left (inr put) l at =
      let there : IsAt next c = record { bytes = put.0; is = ap (λ (x : Content). x.checkpoint) put.1.1; text = put.1.0 } in
      subst P (at_once there at) holds

module _ {F : Type 0} {may_leave : F → Outcomes} {moment : F → ℕ} {left_since : F → ℕ → Outcomes} (only_now : OnlyNow may_leave moment left_since) {f g : F} (P : Checkpoint → Type 0) (here : (c : Content) → may_leave f c → IfThere c P) where
  pub keeps_there : {step : Step} → ((d c : Content) → step d c → c.checkpoint ≡ d.checkpoint) → Passes may_leave moment left_since step f g → LeavesOnly moment left_since f g (λ c. IfThere c P)
  keeps_there same p = leaves only_now here (kept_there may_leave f P here same) p

  pub puts_there : {next : Checkpoint} → P next → Passes may_leave moment left_since (MayCheckpoint next) f g → LeavesOnly moment left_since f g (λ c. IfThere c P)
  puts_there holds p = leaves only_now here (put_there may_leave f P here holds) p

  -- one after the other
  pub both_there : {step : Step} {next : Checkpoint} {h : F} → ((d c : Content) → step d c → c.checkpoint ≡ d.checkpoint) → Passes may_leave moment left_since step f g → P next → Passes may_leave moment left_since (MayCheckpoint next) g h
      → LeavesOnly moment left_since f h (λ c. IfThere c P)
  both_there same p holds q = joined_moments (keeps_there same p) (leaves only_now (left_after (kept_there may_leave f P here same) p) (put_there may_leave g P (left_after (kept_there may_leave f P here same) p) holds) q)

-- ---- what a run opened

-- and then the root was looked at
pub opened_then : {s t u : Store} {to : State} {end : SliceEnd} (further : Further) (root : StorageRoot) → Counts s t → Counts t u → content_since further root t u ≡ [] → TookOrBegan to end (content_since further root s t) → TookOrBegan to end (content_since further root s u)
opened_then {to = to} {end} further root p q none h = subst (TookOrBegan to end) (sym (content_first_alone further root p q none)) h

pub up_then : {s t u : Store} (further : Further) (root : StorageRoot) → Counts s t → Counts t u → content_since further root t u ≡ [] → IsAscending place_cmp (content_since further root s t) → IsAscending place_cmp (content_since further root s u)
up_then further root p q none h = subst (IsAscending place_cmp) (sym (content_first_alone further root p q none)) h

pub up_none : {ps : List Place} → ps ≡ [] → IsAscending place_cmp ps
up_none is = subst (IsAscending place_cmp) (sym is) tt

-- one that was not made opened nothing
pub up_either : {ps : List Place} (end : RunStatus) → (end ≢ status.Worn → IsAscending place_cmp ps) → (end ≡ status.Worn → ps ≡ []) → IsAscending place_cmp ps
up_either status.Worn made unmade = up_none (unmade refl)
up_either status.Ended made unmade = made (λ e. cc)
up_either status.Spent made unmade = made (λ e. cc)
up_either (status.Stopped why) made unmade = made (λ e. cc)

-- in a slice that was kept, or was not
pub kept_opened : (k : Checkpoint) {ps : List Place} {c : Cursor} {limits : Limits} (ran : RunEnd) → KeepsTo c limits ran → TookOrBegan ran.cursor.state (slice_end ran.end) ps → (r : Result Made Stop)
    → IfOk r (λ made. (mark : ReportMark) × IsNext k ran mark made.checkpoint) → IfOk r (IsMadeBy ran) → IfOk r (λ made. TookOrBegan (reached made.checkpoint) made.end ps)
kept_opened k ran keeps h (Err why) next by = tt
kept_opened k {ps = ps} ran keeps h (Ok made) next by =
    subst (λ (end : SliceEnd). TookOrBegan (reached made.checkpoint) end ps) (sym by.end) (subst (λ (to : State). TookOrBegan to (slice_end ran.end) ps) (sym (reached_next keeps next.1)) h)

pub unkept_opened : (k : Checkpoint) (ps : List Place) (r : Result Made Stop) → IfOk r (IsUnkept k) → IfOk r (λ made. TookOrBegan (reached made.checkpoint) made.end ps)
unkept_opened k ps (Err why) un = tt
unkept_opened k ps (Ok made) un = record { took = []; begun = ps; are = refl; taken = record { each = λ p i. absurd i }; few = by made.end un.away }
  where
    by : (end : SliceEnd) → IsAway end → AreFew end ps
    by slice.RootChanged away = tt
    by (slice.Unread p) away = tt
    by slice.Ended away = absurd away
    by slice.Spent away = absurd away
    by (slice.Stopped why) away = absurd away

-- ---- a night, run by run

heard_append : (a b : List Event) → heard_in (a ++ b) ≡ heard_in a ++ heard_in b
heard_append [] b = refl
heard_append (Asked stops ∷ a) b = heard_append a b
heard_append (Read now ∷ a) b = heard_append a b
heard_append (Heard made ∷ a) b = ap (λ (l : List Made). made ∷ l) (heard_append a b)

-- no run is heard of where none is begun
pub record IsUnheard (now new : List Event) : Type 0 where
  pub more : List Event
  pub are : new ≡ now ++ more
  pub none : heard_in more ≡ []

pub unheard_none : {now : List Event} → IsUnheard now now
unheard_none {now} = record { more = []; are = sym (append-nil now); none = refl }

pub unheard_begun : {now new : List Event} (time : ℕ) → new ≡ now ++ Asked false ∷ Read time ∷ [] → IsUnheard now new
unheard_begun time is = record { more = Asked false ∷ Read time ∷ []; are = is; none = refl }

pub unheard_paused : (plan : Plan) (d : Done) {now new : List Event} (why : Pause) → IsAllowed plan d now new (Err why) → IsUnheard now new
unheard_paused plan d pause.Asked is = record { more = Asked true ∷ []; are = is; none = refl }
unheard_paused plan d pause.TimeUp is = unheard_begun is.0 is.1.0
unheard_paused plan d pause.Spent is = unheard_begun is.0.0 is.0.1.0
unheard_paused plan d pause.Closing is = absurd is
unheard_paused plan d (pause.Stopped why) is = absurd is
unheard_paused plan d pause.RootChanged is = absurd is

-- runs after which the night went on, up to a checkpoint
pub record SoLittle {F : Type 0} (root : StorageRoot) (part : Part) (S : state.Ghosts F) (cycle : ℕ) (old now : List Event) (s t : Store) (folder : F) (k : Checkpoint) (met : Option Place) : Type 0 where
  pub legs : List (Leg F)
  pub are : AreLegs root part S cycle s legs t folder
  pub up : IsAscending place_cmp (took_by legs)
  pub taken : AreTaken (reached k) (took_by legs)
  pub walk : IsMetAfter legs met
  pub events : List Event
  pub are_new : now ≡ old ++ events
  pub heard : heard_in events ≡ made_by legs

pub little_none : {F : Type 0} (root : StorageRoot) (part : Part) (S : state.Ghosts F) (cycle : ℕ) (events : List Event) (s : Store) (folder : F) (k : Checkpoint) (kept : KeptWalk) → kept.met ≡ None → SoLittle root part S cycle events events s s folder k (met_at kept)
little_none root part S cycle events s folder k kept none = record {
  legs = [];
  are = refl;
  walk = ap met_in none;
  up = tt;
  taken = record { each = λ p i. absurd i };
  events = [];
  are_new = sym (append-nil events);
  heard = refl;
}

module _ {F : Type 0} {root : StorageRoot} {part : Part} {S : state.Ghosts F} {cycle : ℕ} {old now : List Event} {s u : Store} {f : F} {k : Checkpoint} {met : Option Place} (so : SoLittle root part S cycle old now s u f k met) (same : cycle_of k ≡ cycle) where
  done_now : HasDone cycle (took_by so.legs) k
  done_now = inr (sym same, so.taken)

  -- no further run is begun
  pub little_now : {rounds : Rounds} {t : Text} {new : List Event} → OnlyNow S.may_leave S.moment S.left_since → IsReady S rounds t k f → IsUnheard now new → IsLittleAgain root part S cycle old new s u f
  little_now only_now ready more = record {
    legs = so.legs;
    before = u;
    left = f;
    are = so.are;
    from = k;
    at = ready.at;
    met = met;
    walk = so.walk;
    asked = inl refl;
    once = subst (IsAscending place_cmp) (sym (ap (λ (ps : List Place). took_by so.legs ++ ps) (content_none k.cursor.further root u) ∙ append-nil (took_by so.legs))) so.up;
    crash = unmoved only_now (ready_there (HasDone cycle (took_by so.legs)) done_now ready);
    events = so.events ++ more.more;
    are_new = more.are ∙ ap (λ (l : List Event). l ++ more.more) so.are_new ∙ append_assoc old so.events more.more;
    last = [];
    heard = heard_append so.events more.more ∙ ap (λ (l : List Made). heard_in so.events ++ l) more.none ∙ append-nil (heard_in so.events) ∙ so.heard ∙ sym (append-nil (made_by so.legs));
    one = omega arith;
  }

  module _ (v : Store) (g : F) (beyond : AreBeyond (reached k) (content_since k.cursor.further root u v)) (once : IsAscending place_cmp (content_since k.cursor.further root u v)) (crash : LeavesOnly S.moment S.left_since f g (λ c. IfThere c (GoesOn k))) (there : IsAt k (S.seen f)) where
    all_once : IsAscending place_cmp (took_by so.legs ++ content_since k.cursor.further root u v)
    all_once = ascends_append place_cmp (took_by so.legs) (content_since k.cursor.further root u v) so.up once (λ p q i j. taken_below (reached k) p q (so.taken.each p i) (beyond.each q j))

    still_done : LeavesOnly S.moment S.left_since f g (λ c. IfThere c (HasDone cycle (took_by so.legs)))
    still_done = leaves_weaker (λ c there l at. done_more cycle (took_by so.legs) k l done_now (there l at)) crash

    -- one that nothing was heard of
    pub little_begun : {new : List Event} → IsUnheard now new → MayAskFrom root part (declaring root) met k u v → IsLittleAgain root part S cycle old new s v g
    little_begun more ask = record {
      legs = so.legs;
      before = u;
      left = f;
      are = so.are;
      from = k;
      at = there;
      met = met;
      walk = so.walk;
      asked = ask;
      once = all_once;
      crash = still_done;
      events = so.events ++ more.more;
      are_new = more.are ∙ ap (λ (l : List Event). l ++ more.more) so.are_new ∙ append_assoc old so.events more.more;
      last = [];
      heard = heard_append so.events more.more ∙ ap (λ (l : List Made). heard_in so.events ++ l) more.none ∙ append-nil (heard_in so.events) ∙ so.heard ∙ sym (append-nil (made_by so.legs));
      one = omega arith;
    }

    module _ (run : Run) {new : List Event} (is : new ≡ now ++ events_of run) (ask : AskedFrom root part (declaring root) met k (GaveAll k run.made) u v) where
      heard_then : heard_in (so.events ++ events_of run) ≡ made_by so.legs ++ run.made ∷ []
      heard_then = heard_append so.events (events_of run) ∙ ap (λ (l : List Made). l ++ run.made ∷ []) so.heard

      events_then : new ≡ old ++ (so.events ++ events_of run)
      events_then = is ∙ ap (λ (l : List Event). l ++ events_of run) so.are_new ∙ append_assoc old so.events (events_of run)

      -- the last one
      pub little_last : IsLittleAgain root part S cycle old new s v g
      little_last = record {
        legs = so.legs;
        before = u;
        left = f;
        are = so.are;
        from = k;
        at = there;
        met = met;
        walk = so.walk;
        asked = ask;
        once = all_once;
        crash = still_done;
        events = so.events ++ events_of run;
        are_new = events_then;
        last = run.made ∷ [];
        heard = heard_then;
        one = omega arith;
      }

      -- one after which the night goes on
      pub little_more : {m : Checkpoint} {next : Option Place} → TookOrBegan (reached run.made.checkpoint) run.made.end (content_since k.cursor.further root u v) → StaysTaken (reached k) (reached run.made.checkpoint) → reached run.made.checkpoint ≡ reached m
          → ((why : Pause) → place_or_pause run.made.end ≢ Err (Some why)) → IsAt m (S.seen g) → m.cursor ≡ run.made.checkpoint.cursor → IsMetBy run.made.end next → SoLittle root part S cycle old new s v g m next
      little_more {m} opened stays came goes_on at cursor walk =
          record {
            legs = record { from = k; met = met; made = run.made; took = opened.took; begun = opened.begun; before = u; after = v; old = f; new = g } ∷ so.legs;
            are = (refl, refl, so.walk, record { goes_on = goes_on; at = there; asked = ask; opened = opened.are; few = opened.few; once = all_once; crash = still_done; led = record { checkpoint = m; at = at; cursor = cursor } }, so.are);
            up = ascends_left place_cmp (took_by so.legs ++ opened.took) opened.begun
                (subst (IsAscending place_cmp) (ap (λ (ps : List Place). took_by so.legs ++ ps) opened.are ∙ sym (append_assoc (took_by so.legs) opened.took opened.begun)) all_once);
            walk = walk;
            taken = record { each = λ p i. subst (λ (x : State). is_taken x p ≡ true) came (by p (among_either (took_by so.legs) opened.took p i)) };
            events = so.events ++ events_of run;
            are_new = events_then;
            heard = heard_then;
          }
        where
          by : (p : Place) → IsAmong (took_by so.legs) p ⊎ IsAmong opened.took p → is_taken (reached run.made.checkpoint) p ≡ true
          by p (inl i) = stays.each p (so.taken.each p i)
          by p (inr i) = opened.taken.each p i

-- what it is after which the night goes on
pub goes_on_by : (strict : Bool) (d e : Done) {k : Checkpoint} {limits : Limits} {made : Made} (next : Checkpoint × Option Pause) → k.phase ≡ Open → IsSlice k limits made → (StopsOpen made → turn_of e next ≡ after_made strict d made) → next.1 ≡ None
    → (why : Pause) → place_or_pause made.end ≢ Err (Some why)
goes_on_by strict d e {made = made} next going is led none why at =
    let turn = led (stops_open going is) in
    let pauses : None ≡ Some why = sym none ∙ ap (λ (x : Turn). x.pause) turn ∙ ap (λ (x : Result Place (Option Pause)). (after_end strict d made.checkpoint x).pause) at in
    absurd (cc pauses)

-- what is done after a run keeps its cursor
done_cursor : (p : Place) (k : Checkpoint) (done : Remedy) → (done_by k p done).0.cursor ≡ k.cursor
done_cursor p k remedy.TryAgain = refl
done_cursor p k (remedy.LeaveOut branch) = refl
done_cursor p k remedy.Halt = refl

pub same_cursor : (strict : Bool) (d e : Done) {k : Checkpoint} {limits : Limits} {made : Made} (next : Checkpoint × Option Pause) → k.phase ≡ Open → IsSlice k limits made → (StopsOpen made → turn_of e next ≡ after_made strict d made)
    → next.0.cursor ≡ made.checkpoint.cursor
same_cursor strict d e {made = made} next going is led = ap (λ (x : Turn). x.checkpoint.cursor) (led (stops_open going is)) ∙ by (place_or_pause made.end)
  where
    by : (at : Result Place (Option Pause)) → (after_end strict d made.checkpoint at).checkpoint.cursor ≡ made.checkpoint.cursor
    by (Ok p) = done_cursor p made.checkpoint (remedy_at strict d p)
    by (Err why) = refl

-- ---- what comes after the runs

-- from the checkpoint that is there another one is put
pub little_on : {F : Type 0} {root : StorageRoot} {part : Part} {S : state.Ghosts F} {cycle : ℕ} {old new : List Event} {s t : Store} {g h : F} {c : Content} {k : Checkpoint} (so : IsLittleAgain root part S cycle old new s t g) → IsAt k c → (S.moment so.left ≤ S.moment g → S.left_since g (S.moment so.left) c)
    → LeavesOnly S.moment S.left_since g h (λ d. IfThere d (GoesOn k)) → IsLittleAgain root part S cycle old new s t h
little_on {cycle = cycle} {c = c} {k} so at left crash = record {
  legs = so.legs;
  before = so.before;
  left = so.left;
  are = so.are;
  from = so.from;
  at = so.at;
  met = so.met;
  walk = so.walk;
  asked = so.asked;
  once = so.once;
  crash = joined_moments so.crash (leaves_weaker (λ d there l then_at. done_more cycle (took_by so.legs) k l (so.crash.each c (left so.crash.later) k at) (there l then_at)) crash);
  events = so.events;
  are_new = so.are_new;
  last = so.last;
  heard = so.heard;
  one = so.one;
}
