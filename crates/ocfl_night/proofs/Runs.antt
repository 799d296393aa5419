-- How the runs of a night follow each other.
use Rattle.std.proofs.Common.{◌≡◌, ◌≢◌, ◌∙◌, ◌++◌, ◌∷◌, [], inl, inr, ap, refl, sym, subst, append_assoc, Bool, List, Option, Some, None, Result, Ok, Err, true, false, ℕ}
use Rattle.std.proofs.lemmas.List.{append-nil, flat_map_more}
use Rattle.std.specs.Prelude.{flat_map, ⊤}
use Rattle.ocfl_tree.specs.Place.{Place}
use Rattle.ocfl_item.specs.declared.fault.Fault.TheVariants as fault
use Rattle.ocfl_cursor.specs.declared.limits.Limits.{Limits}
use Rattle.ocfl_state.specs.{Checkpoint.{Checkpoint}, declared.checkpoint_parts.Phase.{Phase}}
use Rattle.ocfl_state.specs.declared.checkpoint_parts.Phase.TheVariants.{Open, Closing}
use Rattle.ocfl_night.specs.{Beginning.{Position, goes_on_at, goes_on_in, position}, Done.{Done, with_begun, with_made}, Leaving.{MayHaveLeftAt, done_by, remedy_at}, Steps.{begun_anew, with_all_said}}
use Rattle.ocfl_terms.specs.Clock.{Event, Asked, Read}
use Rattle.ocfl_night.specs.Ending.{IsSlice, cycle_ended, ended_by, halt_after, halt_of, place_or_pause, slice_end}
use Rattle.ocfl_night.specs.Runs.{Run, Turn, AreMade, AreRunsOf, EndsBy, IsAllowed, IsEndedBy, IsFailed, IsHalted, IsPaused, IsRunOf, MayHaveLeft, StopsOpen, after_end, after_made, events_of, turn, turn_of}
use Rattle.ocfl_terms.specs.{declared.plan.Halt.{Halt}, declared.plan.Plan.{Plan}, declared.stop.Stop.{Stop}}
use Rattle.ocfl_night.specs.{declared.pause.Pause.{Pause}, declared.tally.Remedy.{Remedy}}
use Rattle.ocfl_terms.specs.{declared.made.Made.{Made}, declared.made.SliceEnd.{SliceEnd}}
use Rattle.ocfl_terms.specs.declared.plan.Halt.TheVariants as halt
use Rattle.ocfl_night.specs.declared.pause.Pause.TheVariants as pause
use Rattle.ocfl_terms.specs.declared.made.SliceEnd.TheVariants as slice
use Rattle.ocfl_night.specs.declared.tally.Remedy.TheVariants as remedy

-- ---- one more run

last_run : {plan : Plan} {d e : Done} {k l : Checkpoint} {r : Run} → e ≡ d → l ≡ k → IsRunOf plan e l r → (turn plan e r).pause ≡ None → AreRunsOf plan d k (r ∷ []) (turn plan e r).done (turn plan e r).checkpoint
last_run {plan} {d} {e} {k} {l} {r} same at is goes = (
  subst (λ (x : Done). IsRunOf plan x k r) same (subst (λ (x : Checkpoint). IsRunOf plan e x r) at is),
  ap (λ (x : Done). (turn plan x r).pause) (sym same) ∙ goes,
  (ap (λ (x : Done). (turn plan x r).done) same, ap (λ (x : Done). (turn plan x r).checkpoint) same),
)

one_more : {plan : Plan} (d e : Done) (k l : Checkpoint) (runs : List Run) {r : Run} → AreRunsOf plan d k runs e l → IsRunOf plan e l r → (turn plan e r).pause ≡ None → AreRunsOf plan d k (runs ++ r ∷ []) (turn plan e r).done (turn plan e r).checkpoint
one_more d e k l [] made is goes = last_run made.0 made.1 is goes
one_more {plan} d e k l (q ∷ runs) made is goes = (made.0, made.1, one_more (turn plan d q).done e (turn plan d q).checkpoint l runs made.2 is goes)

-- ---- runs up to a moment

-- these runs were made so far, and led here
pub record SoFar (plan : Plan) (old now : List Event) (d : Done) (k : Checkpoint) (e : Done) (l : Checkpoint) : Type 0 where
  pub runs : List Run
  pub made : AreRunsOf plan d k runs e l
  pub events : now ≡ old ++ flat_map events_of runs

pub none_yet : {plan : Plan} {old : List Event} {d : Done} {k : Checkpoint} → SoFar plan old old d k d k
none_yet {plan} {old} = record { runs = []; made = (refl, refl); events = sym (append-nil old) }

-- and then this
pub and_then : {plan : Plan} {old now new : List Event} {d e : Done} {k l : Checkpoint} {Ends : Done → Checkpoint → List Event → Type 0} (last : List Event) → SoFar plan old now d k e l → new ≡ now ++ last → Ends e l last → AreMade plan old new d k Ends
and_then {plan} {old} {now} {new} {d} {e} {k} {l} last so is ends = record {
  runs = so.runs;
  done = e;
  checkpoint = l;
  last = last;
  made = so.made;
  ends = ends;
  events = is ∙ ap (λ (x : List Event). x ++ last) so.events ∙ append_assoc old (flat_map events_of so.runs) last;
}

-- one more, which does not halt the night
pub run_more : {plan : Plan} {old now new : List Event} {d e f : Done} {k l m : Checkpoint} (r : Run) → SoFar plan old now d k e l → new ≡ now ++ events_of r → IsRunOf plan e l r → turn plan e r ≡ turn_of f (m, None) → SoFar plan old new d k f m
run_more {plan} {old} {now} {new} {d} {e} {f} {k} {l} {m} r so is run led = record {
  runs = so.runs ++ r ∷ [];
  made = subst (λ (x : Turn). AreRunsOf plan d k (so.runs ++ r ∷ []) x.done x.checkpoint) led (one_more d e k l so.runs so.made run (ap (λ (x : Turn). x.pause) led));
  events = is ∙ ap (λ (x : List Event). x ++ events_of r) so.events ∙ flat_map_more events_of old so.runs r;
}

-- ---- why no further one is made

pub paused_before : {plan : Plan} {d : Done} {k : Checkpoint} {old now new : List Event} {d0 : Done} {k0 : Checkpoint} (why : Pause) → SoFar plan old now d0 k0 d k → k.phase ≡ Open → IsAllowed plan d now new (Err why)
    → AreMade plan old new d0 k0 (λ e l last. IsPaused plan e l last why d k)
paused_before pause.Asked so going is = and_then (Asked true ∷ []) so is (going, refl, refl, refl)
paused_before pause.TimeUp so going is = and_then (Asked false ∷ Read is.0 ∷ []) so is.1.0 (going, (is.0, (refl, is.1.1)), refl, refl)
paused_before pause.Spent so going is = and_then (Asked false ∷ Read is.0.0 ∷ []) so is.0.1.0 (going, (is.0.0, (refl, is.0.1.1)), is.1, refl, refl)
paused_before pause.Closing so going is = absurd is
paused_before (pause.Stopped why) so going is = absurd is
paused_before pause.RootChanged so going is = absurd is

-- only these halt a night after a run
abbrev Halts : Pause → Type 0
Halts (pause.Stopped why) = ⊤
Halts pause.RootChanged = ⊤
Halts _ = ⊥

halting : (it why : Pause) → it ≡ why → Halts it → Halts why
halting it why is halts = subst Halts is halts

halts_by : (p : Place) (k : Checkpoint) (done : Remedy) (why : Pause) → (done_by k p done).1 ≡ Some why → Halts why
halts_by p k remedy.TryAgain why is = absurd (cc is)
halts_by p k (remedy.LeaveOut branch) why is = absurd (cc is)
halts_by p k remedy.Halt why is = halting (pause.Stopped (fault.Store p)) why (cc is) tt

halts_after : (strict : Bool) (d : Done) (k : Checkpoint) (end : SliceEnd) (why : Pause) → (after_end strict d k (place_or_pause end)).pause ≡ Some why → Halts why
halts_after strict d k slice.Ended why is = absurd (cc is)
halts_after strict d k slice.Spent why is = absurd (cc is)
halts_after strict d k (slice.Stopped (fault.Store p)) why is = halts_by p k (remedy_at strict d p) why is
halts_after strict d k (slice.Stopped fault.Memory) why is = halting (pause.Stopped fault.Memory) why (cc is) tt
halts_after strict d k (slice.Unread p) why is = halting (pause.Stopped (fault.Store p)) why (cc is) tt
halts_after strict d k slice.RootChanged why is = halting pause.RootChanged why (cc is) tt

paused_by : {plan : Plan} {d e : Done} {k l : Checkpoint} {r : Run} (why : Pause) → IsRunOf plan d k r → turn plan d r ≡ turn_of e (l, Some why) → Halts why → IsPaused plan d k (events_of r) why e l
paused_by {r = r} (pause.Stopped why) run is halts = record { run = r; is = run; events = refl; halts = is }
paused_by {r = r} pause.RootChanged run is halts = record { run = r; is = run; events = refl; halts = is }
paused_by pause.TimeUp run is halts = absurd halts
paused_by pause.Spent run is halts = absurd halts
paused_by pause.Asked run is halts = absurd halts
paused_by pause.Closing run is halts = absurd halts

pub paused : {plan : Plan} {d e : Done} {k l : Checkpoint} {r : Run} (why : Pause) → IsRunOf plan d k r → turn plan d r ≡ turn_of e (l, Some why) → IsPaused plan d k (events_of r) why e l
paused {plan} {d} {r = r} why run is =
    paused_by why run is (halts_after plan.stop_at_faults (with_made r.made (with_begun r.now d)) r.made.checkpoint r.made.end why (ap (λ (x : Turn). x.pause) is))

-- ---- what a night answers then

-- the cycle goes on after a run that halts the night
goes_on_by : (p : Place) (k : Checkpoint) (done : Remedy) → k.phase ≡ Open → (done_by k p done).0.phase ≡ Open
goes_on_by p k remedy.TryAgain going = going
goes_on_by p k (remedy.LeaveOut branch) going = going
goes_on_by p k remedy.Halt going = going

goes_on_after : (strict : Bool) (d : Done) (k : Checkpoint) (at : Result Place (Option Pause)) → k.phase ≡ Open → (after_end strict d k at).checkpoint.phase ≡ Open
goes_on_after strict d k (Ok p) going = goes_on_by p k (remedy_at strict d p) going
goes_on_after strict d k (Err why) going = going

pub made_open : {k : Checkpoint} {limits : Limits} {made : Made} → k.phase ≡ Open → IsSlice k limits made → made.end ≢ slice.Ended → made.checkpoint.phase ≡ Open
made_open going (inl un) goes = ap (λ (x : Checkpoint). x.phase) un.checkpoint ∙ going
made_open going (inr r) goes = r.1.2.1.goes_on (λ is. goes (r.1.1.end ∙ ap slice_end is))

-- a run that stopped at a place left a checkpoint whose cycle goes on
pub stops_open : {k : Checkpoint} {limits : Limits} {made : Made} → k.phase ≡ Open → IsSlice k limits made → StopsOpen made
stops_open going is p at = made_open going is (λ ended. let none = sym (ap place_or_pause ended) ∙ at in absurd (cc none))

halted_open : {plan : Plan} {d e : Done} {k l : Checkpoint} {last : List Event} {why : Pause} → IsHalted plan d k last why e l → l.phase ≡ Open
halted_open {plan} {d} {e} {k} {l} {last} {why} h =
    let r = h.run in
    let done = with_made r.made (with_begun r.now d) in
    let paused = ap (λ (x : Turn). x.pause) h.halts in
    let going = made_open h.is.may.goes_on h.is.made (λ ended. let none = sym (ap (λ (x : SliceEnd). (after_end plan.stop_at_faults done r.made.checkpoint (place_or_pause x)).pause) ended) ∙ paused in absurd (cc none)) in
    sym (ap (λ (x : Turn). x.checkpoint.phase) h.halts) ∙ goes_on_after plan.stop_at_faults done r.made.checkpoint (place_or_pause r.made.end) going

same_phase : {k l : Checkpoint} {phase : Phase} → k.phase ≡ phase → l ≡ k → l.phase ≡ phase
same_phase is same = ap (λ (x : Checkpoint). x.phase) same ∙ is

goes_on_so : (Left : Position → Type 0) (plan : Plan) (d e : Done) (k l : Checkpoint) (last : List Event) (cycle : ℕ) (why : Pause) → l.phase ≡ Open → EndsBy Left plan (halt_of why) e d k last → EndsBy Left plan (halt_after (cycle_ended l.phase cycle) why) e d k last
goes_on_so Left plan d e k l last cycle why going is = subst (λ (x : Phase). EndsBy Left plan (halt_after (cycle_ended x cycle) why) e d k last) (sym going) is

-- where a cycle that goes on is left
still_at : (Left : Position → Type 0) (l : Checkpoint) → l.phase ≡ Open → Left (goes_on_at l) → Left (position l)
still_at Left l going left = subst (λ (x : Phase). Left (goes_on_in x l)) going left

-- a night that made no further run answers so, once its report is closed if the cycle has ended
pub ended_so : (Left : Position → Type 0) (plan : Plan) (d e : Done) (k l : Checkpoint) (last : List Event) (why : Pause) → Left (goes_on_at l) → IsPaused plan d k last why e l → EndsBy Left plan (halt_after (cycle_ended l.phase l.cursor.cycle) why) e d k last
ended_so Left plan d e k l last pause.Closing left p =
    let anew : Left (position (begun_anew k)) = subst (λ (x : Checkpoint). Left (position (begun_anew x))) p.3 (subst (λ (x : Phase). Left (goes_on_in x l)) (same_phase p.0 p.3) left) in
    subst (λ (x : Phase). EndsBy Left plan (halt_after (cycle_ended x l.cursor.cycle) pause.Closing) e d k last) (sym (same_phase p.0 p.3)) (p.0, p.1, ap (λ (x : Checkpoint). x.cursor.cycle) p.3, p.2, anew)
ended_so Left plan d e k l last pause.Asked left p = let going = same_phase p.0 p.3 in goes_on_so Left plan d e k l last l.cursor.cycle pause.Asked going (l, (p, still_at Left l going left))
ended_so Left plan d e k l last pause.TimeUp left p = let going = same_phase p.0 p.3 in goes_on_so Left plan d e k l last l.cursor.cycle pause.TimeUp going (l, (p, still_at Left l going left))
ended_so Left plan d e k l last pause.Spent left p = let going = same_phase p.0 p.4 in goes_on_so Left plan d e k l last l.cursor.cycle pause.Spent going (l, (p, still_at Left l going left))
ended_so Left plan d e k l last (pause.Stopped why) left p = let going = halted_open p in goes_on_so Left plan d e k l last l.cursor.cycle (pause.Stopped why) going (l, (p, still_at Left l going left))
ended_so Left plan d e k l last pause.RootChanged left p = let going = halted_open p in goes_on_so Left plan d e k l last l.cursor.cycle pause.RootChanged going (l, (p, still_at Left l going left))

-- ---- what a step of a night shows of it

-- where a run led, by what was done then
pub led_by : (plan : Plan) (d : Done) (now : ℕ) {begun made_then e : Done} {k : Checkpoint} {limits : Limits} {made : Made} {next : Checkpoint × Option Pause} → k.phase ≡ Open → IsSlice k limits made → begun ≡ with_begun now d → made_then ≡ with_made made begun
    → (StopsOpen made → turn_of e next ≡ after_made plan.stop_at_faults made_then made) → turn plan d (record { now = now; made = made }) ≡ turn_of e next
led_by plan d now {made = made} going is at_first then led =
    ap (λ (x : Done). after_made plan.stop_at_faults (with_made made x) made) (sym at_first) ∙ ap (λ (x : Done). after_made plan.stop_at_faults x made) (sym then) ∙ sym (led (stops_open going is))

-- what one may have left out that failed after it
pub left_by_place : (strict : Bool) (d e : Done) (made : Made) {p : Place} → place_or_pause made.end ≡ Ok p → MayHaveLeftAt strict d p e → MayHaveLeft strict d made e
left_by_place strict d e made at (inl same) = inl same
left_by_place strict d e made at (inr more) = inr (more ∙ sym (ap (λ (x : Result Place (Option Pause)). (after_end strict d made.checkpoint x).done.left) at))

-- one that failed
pub failed_so : (plan : Plan) (d e : Done) (k : Checkpoint) (last : List Event) {r : Result (Checkpoint × Pause) Stop} {why : Stop} → r ≡ Err why → IsFailed plan d k last e → IsEndedBy plan d k last e r
failed_so plan d e k last is failed = subst (IsEndedBy plan d k last e) (sym is) failed

pub made_so : {plan : Plan} {old new : List Event} {d : Done} {k : Checkpoint} {Ends More : Done → Checkpoint → List Event → Type 0} → ((e : Done) (l : Checkpoint) (last : List Event) → Ends e l last → More e l last) → AreMade plan old new d k Ends → AreMade plan old new d k More
made_so more m = record { runs = m.runs; done = m.done; checkpoint = m.checkpoint; last = m.last; made = m.made; ends = more m.done m.checkpoint m.last m.ends; events = m.events }

-- a night that was troubled in a run, or when no further one was made
pub troubled_in : (Left : Position → Type 0) (plan : Plan) (e : Done) {r : Result Halt Stop} {why : Stop} → r ≡ Err why → (d : Done) (k : Checkpoint) (last : List Event) → IsFailed plan d k last e → EndsBy Left plan (ended_by r) e d k last
troubled_in Left plan e is d k last failed = subst (λ (x : Result Halt Stop). EndsBy Left plan (ended_by x) e d k last) (sym is) (inl failed)

pub troubled_after : (Left : Position → Type 0) (plan : Plan) (e : Done) (l : Checkpoint) (pause : Pause) {r : Result Halt Stop} {why : Stop} → r ≡ Err why → (d : Done) (k : Checkpoint) (last : List Event) → IsPaused plan d k last pause e l → EndsBy Left plan (ended_by r) e d k last
troubled_after Left plan e l pause is d k last paused = subst (λ (x : Result Halt Stop). EndsBy Left plan (ended_by x) e d k last) (sym is) (inr (pause, (l, paused)))

-- what counts as said is no part of it
said_at : (Left : Position → Type 0) (l : Checkpoint) (p : Phase) → l.phase ≡ p → Left (goes_on_at (with_all_said l)) → Left (goes_on_at l)
said_at Left l Open is left = subst (λ (x : Phase). Left (goes_on_in x l)) (sym is) (subst (λ (x : Phase). Left (goes_on_in x (with_all_said l))) is left)
said_at Left l Closing is left = subst (λ (x : Phase). Left (goes_on_in x l)) (sym is) (subst (λ (x : Phase). Left (goes_on_in x (with_all_said l))) is left)

pub halted_so : (Left : Position → Type 0) (plan : Plan) (e : Done) (l said : Checkpoint) (pause : Pause) (ended : Option ℕ) {h : Halt} → said ≡ with_all_said l → ended ≡ cycle_ended said.phase said.cursor.cycle → h ≡ halt_after ended pause → Left (goes_on_at said) → (d : Done) (k : Checkpoint) (last : List Event) → IsPaused plan d k last pause e l → EndsBy Left plan h e d k last
halted_so Left plan e l said pause ended all is so left d k last paused =
    let same = so ∙ ap (λ (o : Option ℕ). halt_after o pause) (is ∙ ap (λ (x : Checkpoint). cycle_ended x.phase x.cursor.cycle) all) in
    let there : Left (goes_on_at l) = said_at Left l l.phase refl (subst (λ (x : Checkpoint). Left (goes_on_at x)) all left) in
    subst (λ (x : Halt). EndsBy Left plan x e d k last) (sym same) (ended_so Left plan d e k l last pause there paused)

-- a night from when nothing was done, and how it ends
pub made_from : (Left : Position → Type 0) (plan : Plan) (old new : List Event) {d nothing : Done} (e : Done) (k : Checkpoint) {h end : Halt} → d ≡ nothing → end ≡ h → AreMade plan old new d k (EndsBy Left plan h e) → AreMade plan old new nothing k (EndsBy Left plan end e)
made_from Left plan old new {nothing = nothing} e k {h = h} {end = end} same is m =
    subst (λ (x : Halt). AreMade plan old new nothing k (EndsBy Left plan x e)) (sym is) (subst (λ (x : Done). AreMade plan old new x k (EndsBy Left plan h e)) same m)

-- of where a night led, this follows
pub left_so : (One Two : Position → Type 0) (plan : Plan) (h : Halt) (e d : Done) (k : Checkpoint) (last : List Event) → ((p : Position) → One p → Two p) → EndsBy One plan h e d k last → EndsBy Two plan h e d k last
left_so One Two plan (halt.CycleEnded cycle) e d k last more is = (is.0, is.1, is.2, is.3, more _ is.4)
left_so One Two plan halt.TimeUp e d k last more is = (is.0, (is.1.0, more _ is.1.1))
left_so One Two plan halt.Spent e d k last more is = (is.0, (is.1.0, more _ is.1.1))
left_so One Two plan halt.Asked e d k last more is = (is.0, (is.1.0, more _ is.1.1))
left_so One Two plan (halt.Stopped why) e d k last more is = (is.0, (is.1.0, more _ is.1.1))
left_so One Two plan halt.RootChanged e d k last more is = (is.0, (is.1.0, more _ is.1.1))
left_so One Two plan (halt.Refused why) e d k last more is = is
left_so One Two plan (halt.Troubled why) e d k last more is = is
