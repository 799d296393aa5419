-- How many runs are begun by what a clock answers.
use Rattle.std.proofs.Common.{◌≡◌, ℕ, ◌+◌, ◌≤◌, List, [], ◌∷◌, ◌++◌, Option, Some, None, Result, Ok, Err, refl, inl, inr, sym, ◌∙◌, ap, subst, arith, Bool, true, false}
use Rattle.std.proofs.lemmas.List.{append-nil}
use Rattle.std.specs.Prelude.{IsTrue, flat_map, if◌then◌else◌, nat_lt}
use Rattle.ocfl_tree.specs.Place.{Place}
use Rattle.ocfl_state.specs.{Checkpoint.{Checkpoint}, Content.{Content}}
use Rattle.ocfl_terms.specs.Clock.{Event, Asked, Read, Heard}
use Rattle.ocfl_night.specs.Pace.{is_before}
use Rattle.ocfl_night_laws.specs.Times.{times, times_before, MayBegin, BeginsInTime}
use Rattle.ocfl_night.specs.Done.{Done, nothing_done}
use Rattle.ocfl_terms.specs.Counting.{counted}
use Rattle.ocfl_night.specs.Beginning.{Position, StandsAt}
use Rattle.ocfl_report.specs.declared.further.Further.{Further}
use Rattle.ocfl_night.specs.Runs.{Run, Turn, AreRunsOf, EndsBy, IsFailed, IsNight, IsPaused, IsRunOf, after_end, after_it, events_of, in_it, turn, turn_of}
use Rattle.ocfl_terms.specs.{declared.plan.Halt.{Halt}, declared.plan.NightEnd.{NightEnd}, declared.plan.Plan.{Plan}}
use Rattle.ocfl_night.specs.declared.pause.Pause.{Pause}
use Rattle.ocfl_terms.specs.declared.plan.Halt.TheVariants as halt
use Rattle.ocfl_night.specs.declared.pause.Pause.TheVariants as pause

times_append : (a b : List Event) → times (a ++ b) ≡ times a ++ times b
times_append [] b = refl
times_append (Asked stops ∷ a) b = times_append a b
times_append (Read now ∷ a) b = ap (λ (l : List ℕ). now ∷ l) (times_append a b)
times_append (Heard made ∷ a) b = times_append a b

counted_on : (n x y z : ℕ) → x ≡ y + z → n + x ≡ (n + y) + z
counted_on n x y z is = omega (arith, is)

before_append : (end : ℕ) (a b : List ℕ) → times_before end (a ++ b) ≡ times_before end a + times_before end b
before_append end [] b = omega arith
before_append end (x ∷ a) b = counted_on (if nat_lt x end then 1 else 0) (times_before end (a ++ b)) (times_before end a) (times_before end b) (before_append end a b)

-- how many of the times that these events tell are before an end
abbrev begun_by : ℕ → List Event → ℕ
begun_by end events = times_before end (times events)

by_both : (end : ℕ) (a b : List Event) → begun_by end (a ++ b) ≡ begun_by end a + begun_by end b
by_both end a b = ap (times_before end) (times_append a b) ∙ before_append end (times a) (times b)

-- ---- one run

at_most_one_more : (n : ℕ) → counted n 1 ≤ n + 1
at_most_one_more n = omega arith

runs_stay : (strict : Bool) (d : Done) (k : Checkpoint) (at : Result Place (Option Pause)) → (after_end strict d k at).done.runs ≡ d.runs
runs_stay strict d k (Ok p) = refl
runs_stay strict d k (Err why) = refl

one_begun : (end now : ℕ) (last : List Event) → nat_lt now end ≡ true → begun_by end (Asked false ∷ Read now ∷ last) ≡ 1 + begun_by end last
one_begun end now last before = ap (λ (b : Bool). (if b then 1 else 0) + begun_by end last) before

before : (end : Option ℕ) (now : ℕ) {e : ℕ} → end ≡ Some e → is_before now end ≡ true → nat_lt now e ≡ true
before end now {e} is in_time = subst (λ (o : Option ℕ). is_before now o ≡ true) is in_time

more : (x y z n m : ℕ) → x ≤ y + n → y ≤ z + 1 → m ≡ 1 + n → x ≤ z + m
more x y z n m le one is = omega (arith, le, one, is)

begun : (plan : Plan) (end : ℕ) (d : Done) (k : Checkpoint) (runs : List Run) (e : Done) (l : Checkpoint) → plan.end ≡ Some end → AreRunsOf plan d k runs e l → e.runs ≤ d.runs + begun_by end (flat_map events_of runs)
begun plan end d k [] e l is made = let same = ap (λ (x : Done). x.runs) made.0 in omega (arith, same)
begun plan end d k (r ∷ runs) e l is made =
    let next = (turn plan d r).done in
    let rest = begun plan end next (turn plan d r).checkpoint runs e l is made.2 in
    let one = subst (λ (n : ℕ). n ≤ d.runs + 1) (sym (runs_stay plan.stop_at_faults _ _ _)) (at_most_one_more d.runs) in
    more e.runs next.runs d.runs (begun_by end (flat_map events_of runs)) (begun_by end (flat_map events_of (r ∷ runs))) rest one (one_begun end r.now (Heard r.made ∷ flat_map events_of runs) (before plan.end r.now is made.0.may.in_time))

-- ---- why no further one is made

few_same : (end : ℕ) (e d : Done) (last : List Event) → e ≡ d → e.runs ≤ d.runs + begun_by end last
few_same end e d last same = let is = ap (λ (x : Done). x.runs) same in omega (arith, is)

few_one : (end : ℕ) (e d : Done) (now : ℕ) (last heard : List Event) → e.runs ≡ counted d.runs 1 → nat_lt now end ≡ true → last ≡ Asked false ∷ Read now ∷ heard → e.runs ≤ d.runs + begun_by end last
few_one end e d now last heard runs in_time is =
    let one = at_most_one_more d.runs in
    let many = ap (begun_by end) is ∙ one_begun end now heard in_time in
    omega (arith, runs, one, many)

few_halted : (plan : Plan) (end : ℕ) {d e : Done} {k l : Checkpoint} {last : List Event} (r : Run) {why : Option Pause} → plan.end ≡ Some end → IsRunOf plan d k r → last ≡ events_of r → turn plan d r ≡ turn_of e (l, why) → e.runs ≤ d.runs + begun_by end last
few_halted plan end {d} {e} {k} {l} {last} r is run events halts =
    let runs = sym (ap (λ (x : Turn). x.done.runs) halts) ∙ runs_stay plan.stop_at_faults _ _ _ in
    few_one end e d r.now last (Heard r.made ∷ []) runs (before plan.end r.now is run.may.in_time) events

few_paused : (plan : Plan) (end : ℕ) (d e : Done) (k l : Checkpoint) (last : List Event) (why : Pause) → plan.end ≡ Some end → IsPaused plan d k last why e l → e.runs ≤ d.runs + begun_by end last
few_paused plan end d e k l last pause.Closing is p = few_same end e d last p.2
few_paused plan end d e k l last pause.Asked is p = few_same end e d last p.2
few_paused plan end d e k l last pause.TimeUp is p = few_same end e d last p.2
few_paused plan end d e k l last pause.Spent is p = few_same end e d last p.3
few_paused plan end d e k l last (pause.Stopped why) is p = few_halted plan end p.run is p.is p.events p.halts
few_paused plan end d e k l last pause.RootChanged is p = few_halted plan end p.run is p.is p.events p.halts

few_failed : (plan : Plan) (end : ℕ) (d e : Done) (k : Checkpoint) (last : List Event) → plan.end ≡ Some end → IsFailed plan d k last e → e.runs ≤ d.runs + begun_by end last
few_failed plan end d e k last is (inr p) = few_same end e d last p.1
few_failed plan end d e k last is (inl (in_it now may events same)) = few_one end e d now last [] (ap (λ (x : Done). x.runs) same) (before plan.end now is may.in_time) events
few_failed plan end d e k last is (inl (after_it r run events runs left)) = few_one end e d r.now last (Heard r.made ∷ []) runs (before plan.end r.now is run.may.in_time) events

few_ended : (Left : Position → Type 0) (plan : Plan) (end : ℕ) (d e : Done) (k : Checkpoint) (last : List Event) (h : Halt) → plan.end ≡ Some end → EndsBy Left plan h e d k last → e.runs ≤ d.runs + begun_by end last
few_ended Left plan end d e k last (halt.CycleEnded n) is p = few_same end e d last p.3
few_ended Left plan end d e k last halt.TimeUp is p = few_paused plan end d e k p.0 last pause.TimeUp is p.1.0
few_ended Left plan end d e k last halt.Spent is p = few_paused plan end d e k p.0 last pause.Spent is p.1.0
few_ended Left plan end d e k last halt.Asked is p = few_paused plan end d e k p.0 last pause.Asked is p.1.0
few_ended Left plan end d e k last (halt.Stopped why) is p = few_paused plan end d e k p.0 last (pause.Stopped why) is p.1.0
few_ended Left plan end d e k last halt.RootChanged is p = few_paused plan end d e k p.0 last pause.RootChanged is p.1.0
few_ended Left plan end d e k last (halt.Refused why) is p = absurd p
few_ended Left plan end d e k last (halt.Troubled why) is (inl failed) = few_failed plan end d e k last is failed
few_ended Left plan end d e k last (halt.Troubled why) is (inr p) = few_paused plan end d e k p.1.0 last p.0 is p.1.1

-- ---- a night

may_begin : (end : Option ℕ) {runs : ℕ} (events : List Event) → ((e : ℕ) → end ≡ Some e → runs ≤ begun_by e events) → MayBegin end (times events) runs
may_begin None events few = tt
may_begin (Some e) events few = few e refl

both_few : (x y z a b c : ℕ) → x ≤ y + b → y ≤ z + a → z ≡ 0 → c ≡ a + b → x ≤ c
both_few x y z a b c p q none is = omega (arith, p, q, none, is)

pub begins_in_time : (further : Further) (plan : Plan) (tells : Bool) (c d : Content) (old new : List Event) (end : NightEnd) → IsNight further plan tells c d old new end → BeginsInTime plan.end old new end.runs
begins_in_time further plan tells c d old new end (inl n) =
    let r = n.runs in
    let events = flat_map events_of r.runs ++ r.last in
    record {
      events = events;
      are = r.events;
      few = subst (MayBegin plan.end (times events)) (sym n.begun) (may_begin plan.end events (λ e is.
          both_few n.done.runs r.done.runs nothing_done.runs (begun_by e (flat_map events_of r.runs)) (begun_by e r.last) (begun_by e events)
          (few_ended (λ (p : Position). IsTrue tells → StandsAt d p) plan e r.done n.done r.checkpoint r.last end.end is r.ends) (begun plan e nothing_done n.start r.runs r.done r.checkpoint is r.made) refl (by_both e (flat_map events_of r.runs) r.last)));
    }
begins_in_time further plan tells c d old new end (inr n) = record {
  events = [];
  are = n.same ∙ sym (append-nil old);
  few = subst (MayBegin plan.end []) (sym n.runs) (may_begin plan.end [] (λ e is. omega arith));
}
