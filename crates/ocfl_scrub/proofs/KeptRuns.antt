-- A pass with a walk that is kept, or that begins, is a run.
use Rattle.std.proofs.Common.{◌≡◌, ◌≢◌, ◌^◌, ◌≤◌, ℕ, List, refl, sym, ◌∙◌, ap, arith, subst, false, Bool, Some, None, Option}
use Rattle.std.specs.Prelude.{IfSome}
use Rattle.ocfl_tree.specs.{Place.{Place, Text}, StorageRoot.{StorageRoot}, Store.{Store}}
use Rattle.ocfl_rules.specs.{Parts.{Part}, Runs.{Limits}}
use Rattle.ocfl_cursor.specs.{Cursor.{Cursor, State}, Moves.{after_run}}
use Rattle.ocfl_cursor.specs.declared.limits.Limits.{Limits as MadeLimits}
use Rattle.ocfl_item.specs.{declared.fault.Fault.{Fault}}
use Rattle.ocfl_item.specs.declared.pending.Pending.{Pending}
use Rattle.ocfl_report.specs.declared.further.Further.{Further}
use Rattle.ocfl_walk.specs.{Ends.{is_past}, WalkCalls.{FailsOut, GoesDown, Walks}}
use Rattle.ocfl_walk.specs.{Walks.{GivesOut, Stands}, declared.walk.Walk.{Walk}}
use Rattle.ocfl_scrub.specs.{Beginning.{Begins, IsShort}, Call.{Call, call_of, known_call}}
use Rattle.ocfl_scrub.specs.{Alike.{IsAlike}, Keeping.{HasOption, HasOther, IsMet, IsReady, IsReadyIn, LooksAbove, RunsOn, met_at, met_in}}
use Rattle.ocfl_scrub.specs.Passes.{EndsAt, IsAhead, IsPass, Meets, PassesOn, TakesNothing}
use Rattle.ocfl_scrub.specs.Joining.{HasReport}
use Rattle.ocfl_scrub.specs.Running.{IsPaid, RunEndsWithin, RunsCleanlyWithin, RunsFromWithin, RunsOnAnyStore, begun, limits_of, place_in, state_after}
use Rattle.ocfl_scrub.specs.{Starting.{end_of, entry, stand}, Taking.{WritesLines}}
use Rattle.ocfl_scrub.specs.{declared.kept.KeptWalk.{KeptWalk}, declared.kept.Met.{Met}}
use Rattle.ocfl_scrub.specs.{declared.running.Pass.{Pass}, declared.running.RunEnd.{RunEnd}}
use Rattle.ocfl_scrub.specs.declared.running.RunStatus.{RunStatus}
use Rattle.ocfl_scrub.specs.declared.running.RunStatus.TheVariants as status
use Rattle.ocfl_scrub.specs.declared.stop.ReportStop.TheVariants as halt
use Rattle.ocfl_scrub.proofs.{AlikeLaws.{alike_same, alike_tree}, AuditsJoined.{audits_over}}
use Rattle.ocfl_scrub.proofs.{CycleRuns.{has_report}, KeptLaws.{ahead_of}}
use Rattle.ocfl_scrub.proofs.{KeptTurns.{ahead_over, pass_of}, LoopLaws.{GivesNext}}
use Rattle.ocfl_scrub.proofs.{MeterLaws.{paid_none, paid_within}, RunLaws.{runs_cleanly, runs_from}}
use Rattle.ocfl_scrub.proofs.{RunTurns.{run_ended, run_lost, stands_first}, TakeLaws.{nothing_written}}

-- ---- on every store

module _ (old new : Option (List ℕ)) (limits : MadeLimits) (last : Option Place) (spent files : ℕ) (finding : Bool)
    (short : IsShort last) (paid : IsPaid (limits_of limits) spent files) (fits : spent ≤ 2 ^ 63) where
  pub spent_pass : (kept : Met) → WritesLines old new finding → IsPass old new limits (pass_of last spent files finding status.Spent (Some kept))
  spent_pass kept lines = record {
    works = λ e. cc;
    short = short;
    paid = paid;
    fits = fits;
    lines = λ n. lines;
    spent = λ e. (kept.item.place, refl);
    unspent = λ n. absurd (n refl);
  }

  -- it ended otherwise, and no walk is kept
  pub other_pass : (end : RunStatus) → end ≢ status.Worn → end ≢ status.Spent → (end ≢ status.Stopped halt.Output → WritesLines old new finding)
      → IsPass old new limits (pass_of last spent files finding end None)
  other_pass end works unspent lines = record {
    works = works;
    short = short;
    paid = paid;
    fits = fits;
    lines = lines;
    spent = λ e. absurd (unspent e);
    unspent = λ n. refl;
  }

-- a pass that met no item
pub no_pass : (pass : Pass) (old : Option (List ℕ)) (limits : MadeLimits) (from : Option Place) (end : RunStatus) → IsShort from → end ≢ status.Worn → end ≢ status.Spent
    → pass_of from 0 0 false end None ≡ pass → IsPass old old limits pass
no_pass pass old limits from end short works unspent is =
    subst (IsPass old old limits) is (other_pass old old limits from 0 0 false short (paid_none (limits_of limits)) (omega arith) end works unspent (λ n. nothing_written old))

-- ---- a walk that begins

module _ (further : Further) (root : StorageRoot) (part : Part) (s t u : Store) (from : Option Place) (walk : Walk) (there : GoesDown further root s t (entry part from) × Stands further root walk (stand root part from)) where
  gives_there : (next : Walk) (o : Option Pending) → GivesNext further root (end_of part) t u walk next o → GivesOut further root t u (stand root part from) (end_of part) next o
  gives_there next o gave = gave (audits_over there.0.audits) (stand root part from) there.1

  -- the walk gave nothing
  pub begun_ended : (next : Walk) (o : Option Pending) → GivesNext further root (end_of part) t u walk next o → o ≡ None → TakesNothing further root part from status.Ended s u
  begun_ended next o gave is old l =
      let h = stands_first further root part s t old walk from l there in
      let gives : GivesOut further root t u (stand root part from) (end_of part) next None = subst (GivesOut further root t u (stand root part from) (end_of part) next) is (gives_there next o gave) in
      run_ended part h.0 u next (subst (λ x. GivesOut further root t u x (end_of part) next None) (sym h.1) gives)

  -- it met an item
  pub begun_ahead : (m : Met) (o : Option Pending) → GivesNext further root (end_of part) t u walk m.walk o → o ≡ Some m.item → IfSome o (λ p. is_past (end_of part) p.place ≡ false) → IsAhead further root part from m s u
  begun_ahead m o gave is before = record {
    begun = t;
    down = there.0;
    gives = subst (GivesOut further root t u (stand root part from) (end_of part) m.walk) is (gives_there m.walk o gave);
    in_front = subst (λ x. IfSome x (λ p. is_past (end_of part) p.place ≡ false)) is before;
  }

  -- it did not get to one
  pub begun_lost : (why : Fault) → (t.tree ≡ root → (p : Option Place) → Stands further root walk p → FailsOut further root t u p (end_of part) why) → TakesNothing further root part from (status.Stopped (halt.Fault why)) s u
  begun_lost why lost old l =
      let h = stands_first further root part s t old walk from l there in
      run_lost part h.0 u why (subst (λ x. FailsOut further root t u x (end_of part) why) (sym h.1) (lost (audits_over there.0.audits) (stand root part from) there.1))

-- ---- a walk that is kept

-- the same as `PassesOn` with such stores
pub record PassesFrom (call : Call) (part : Part) (p : Place) (from : Option Place) (limits : Limits) (pass : Pass) : Type 0 where
  pub before : Store
  pub begun : Store
  pub there : Store
  pub behind : Store
  pub down : GoesDown call.further call.root before begun (entry part from)
  pub way : Walks call.further call.root begun there (stand call.root part from) (Some p)
  pub alike : IsAlike call.before call.after there behind
  pub ends : EndsAt (call_of call.further call.root before behind call.old call.new) part from limits pass
  pub looks : LooksAbove call part p

-- a pass with a walk that met an item there, or that begins
abbrev pub PassesWith : Call → Part → Option Place → Option Place → Limits → Pass → Type 0
PassesWith call part None from limits pass = EndsAt call part from limits pass
PassesWith call part (Some p) from limits pass = PassesFrom call part p from limits pass

module _ (further : Further) (root : StorageRoot) (part : Part) (s t : Store) (old new : Option (List ℕ)) (from : Option Place) (l : Limits) where
  goes_on_from : (m : Met) (pass : Pass) → PassesOn (call_of further root s t old new) part m from l pass → IsMet further root part from m → PassesFrom (call_of further root s t old new) part m.item.place from l pass
  goes_on_from m pass h is =
      let x = ahead_of further root part from m s.rest s.largest is in
      let y = h.ends x.0 x.1.0 x.1.1.0 x.1.1.1 x.1.1.2 in
      record {
        before = x.0;
        begun = x.1.1.2.begun;
        there = x.1.0;
        behind = y.0;
        down = x.1.1.2.down;
        way = x.1.1.2.gives.0;
        alike = y.1.0;
        ends = y.1.1;
        looks = h.looks is;
      }

  -- a pass from the item that was met
  pub met_item : (u : Store) (kept : Option Met) (m : Met) (pass : Pass) → s.tree ≡ root → IsReadyIn further root part from kept → Meets further root part from kept (Some m) s u
      → (u.tree ≡ root → PassesOn (call_of further root u t old new) part m from l pass) → PassesWith (call_of further root s t old new) part (met_in kept) from l pass
  met_item u None m pass over ready ahead h =
      let x = (h (ahead_over ahead)).ends s u refl refl ahead in
      subst (λ (b : Store). EndsAt (call_of further root s b old new) part from l pass) (alike_same x.1.0) x.1.1
  met_item u (Some k) m pass over ready met h =
      let same : m ≡ k = (let e = met.0 in cc) in
      let on : PassesOn (call_of further root s t old new) part m from l pass = subst (λ (x : Store). PassesOn (call_of further root x t old new) part m from l pass) met.1 (h (rw met.1 over)) in
      goes_on_from k pass (subst (λ (x : Met). PassesOn (call_of further root s t old new) part x from l pass) same on) ready

  -- or none was met
  pub met_none : (kept : Option Met) (pass : Pass) → Meets further root part from kept None s t → pass_of from 0 0 false status.Ended None ≡ pass → old ≡ new → PassesWith (call_of further root s t old new) part (met_in kept) from l pass
  met_none None pass h is same = rw (← is, ← same) (h old l, tt)
  met_none (Some k) pass h is same = absurd (let e = h.0 in cc)

  pub met_lost : (kept : Option Met) (why : Fault) (pass : Pass) → (kept ≡ None) × TakesNothing further root part from (status.Stopped (halt.Fault why)) s t → pass_of from 0 0 false (status.Stopped (halt.Fault why)) None ≡ pass
      → old ≡ new → PassesWith (call_of further root s t old new) part (met_in kept) from l pass
  met_lost kept why pass h is same = rw (h.0, ← is, ← same) (h.1 old l, tt)

  -- ---- what is left

  pub ready_after : (o : Option Place) (pass : Pass) → PassesWith (call_of further root s t old new) part o from l pass → IsReadyIn further root part pass.last pass.met
  ready_after None pass h = h.1
  ready_after (Some p) pass h = h.ends.1

  tree_by : (last : Option Place) (spent files : ℕ) (finding : Bool) (end : RunStatus) → RunEndsWithin (call_of further root s t old new) part from last l spent files finding end → t.tree ≡ root
  tree_by last spent files finding status.Ended h = h.looks.audits.did.tree ∙ h.looks.audits.over
  tree_by last spent files finding status.Spent h = h.1.looks.audits.did.tree ∙ h.1.looks.audits.over
  tree_by last spent files finding (status.Stopped why) h = h.looks.fails.did.tree ∙ h.looks.fails.over
  tree_by last spent files finding status.Worn h = absurd h

  pub tree_on : (o : Option Place) (pass : Pass) → s.tree ≡ root → PassesWith (call_of further root s t old new) part o from l pass → t.tree ≡ root
  tree_on None pass over h = tree_by pass.last pass.spent pass.files pass.found pass.end h.0
  tree_on (Some p) pass over h = alike_tree h.alike ∙ over

  -- ---- from the cursor that a run is given

  pub runs_on : (o : Option Place) (pass : Pass) (c b : Cursor) → Begins c b from → PassesWith (call_of further root s t old new) part o from l pass → (reached : Cursor) (state : State)
      → reached ≡ after_run b pass.spent pass.files state → state ≡ state_after pass.end pass.last
      → RunsOn (call_of further root s t old new) part o c l (record { cursor = reached; spent = pass.spent; files = pass.files; found = pass.found; end = pass.end })
  runs_on None pass c b begins h reached state e f = runs_from further root part s t old new c b from pass.last l pass.spent pass.files pass.found pass.end begins h.0 reached state e f
  runs_on (Some p) pass c b begins h reached state e f = record {
    before = h.before;
    begun = h.begun;
    there = h.there;
    behind = h.behind;
    down = subst (λ x. GoesDown further root h.before h.begun (entry part x)) begins.from_is h.down;
    way = subst (λ x. Walks further root h.begun h.there (stand root part x) (Some p)) begins.from_is h.way;
    alike = h.alike;
    runs = runs_from further root part h.before h.behind old new c b from pass.last l pass.spent pass.files pass.found pass.end begins h.ends.0 reached state e f;
    looks = h.looks;
  }

  -- the same if it used no walk
  pub runs_alone : (o : Option Met) → o ≡ None → (pass : Pass) (c b : Cursor) → Begins c b from → PassesWith (call_of further root s t old new) part (met_in o) from l pass → (reached : Cursor) (state : State)
      → reached ≡ after_run b pass.spent pass.files state → state ≡ state_after pass.end pass.last
      → RunsFromWithin (call_of further root s t old new) part c l (record { cursor = reached; spent = pass.spent; files = pass.files; found = pass.found; end = pass.end })
  runs_alone o none pass c b begins h reached state e f =
      runs_on None pass c b begins (subst (λ x. PassesWith (call_of further root s t old new) part (met_in x) from l pass) none h) reached state e f

  -- and with the walk that it is given
  pub runs_kept : (kept : KeptWalk) (o : Option Met) → o ≡ kept.met → (pass : Pass) (c b : Cursor) → Begins c b from → PassesWith (call_of further root s t old new) part (met_in o) from l pass → (reached : Cursor) (state : State)
      → reached ≡ after_run b pass.spent pass.files state → state ≡ state_after pass.end pass.last
      → RunsOn (call_of further root s t old new) part (met_at kept) c l (record { cursor = reached; spent = pass.spent; files = pass.files; found = pass.found; end = pass.end })
  runs_kept kept o is pass c b begins h reached state e f =
      subst (λ x. RunsOn (call_of further root s t old new) part (met_in x) c l (record { cursor = reached; spent = pass.spent; files = pass.files; found = pass.found; end = pass.end })) is
      (runs_on (met_in o) pass c b begins h reached state e f)

-- a walk is kept only where the cursor stands after the last item
pub ready_at : (further : Further) (root : StorageRoot) (part : Part) (end : RunStatus) (last : Option Place) (o : Option Met) → (end ≢ status.Spent → o ≡ None) → IsReadyIn further root part last o
    → IsReadyIn further root part (place_in (state_after end last)) o
ready_at further root part status.Spent None o none h = h
ready_at further root part status.Spent (Some p) o none h = h
ready_at further root part status.Ended last o none h = subst (λ x. IsReadyIn further root part (place_in (state_after status.Ended last)) x) (sym (none (λ e. cc))) tt
ready_at further root part (status.Stopped why) last o none h = subst (λ x. IsReadyIn further root part (place_in (state_after (status.Stopped why) last)) x) (sym (none (λ e. cc))) tt
ready_at further root part status.Worn last o none h = subst (λ x. IsReadyIn further root part (place_in (state_after status.Worn last)) x) (sym (none (λ e. cc))) tt

module _ (further : Further) (root : StorageRoot) (part : Part) where
  -- a walk that is ready is one of an audit with the option
  pub ready_option : (from : Option Place) (kept : KeptWalk) → IsReady further root part from kept → HasOption further kept.met
  ready_option from kept ready = by kept.met ready
    where
      by : (o : Option Met) → IsReadyIn further root part from o → HasOption further o
      by None h = tt
      by (Some m) h = h.gives.1.0

  -- so it is the one that is used
  pub used_ready : (from : Option Place) (kept : KeptWalk) (taken used : Option Met) (option : Further) → option ≡ further → taken ≡ kept.met
      → (HasOption option taken → used ≡ taken) → IsReady further root part from kept → used ≡ kept.met
  used_ready from kept taken used option e is same ready =
      same (subst (λ o. HasOption o taken) (sym e) (subst (λ m. HasOption further m) (sym is) (ready_option from kept ready))) ∙ is

  -- and one of an audit with the other option is not
  pub used_other : (kept : KeptWalk) (taken used : Option Met) (option : Further) → option ≡ further → taken ≡ kept.met
      → (HasOther option taken → used ≡ None) → HasOther further kept.met → used ≡ None
  used_other kept taken used option e is other h = other (subst (λ o. HasOther o taken) (sym e) (subst (λ m. HasOther further m) (sym is) h))

  -- where none is used, nothing has to be ready
  pub ready_unused : (from : Option Place) (o : Option Met) → o ≡ None → IsReadyIn further root part from o
  ready_unused from o none = subst (IsReadyIn further root part from) (sym none) tt

  -- the walk that a run is given goes on above where it begins
  pub ready_given : (c b : Cursor) (from : Option Place) → Begins c b from → (kept : KeptWalk) (o : Option Met) → o ≡ kept.met → IsReady further root part (place_in c.state) kept → IsReadyIn further root part from o
  ready_given c b from begins kept o is ready =
      subst (λ x. IsReadyIn further root part x o) (sym begins.from_is) (subst (λ x. IsReadyIn further root part (place_in c.state) x) (sym is) ready)

  -- and the one that it leaves goes on above where the cursor stands
  pub ready_left : (c b : Cursor) (from : Option Place) → Begins c b from → (reached : Cursor) (spent files : ℕ) (state : State) (end : RunStatus) (last : Option Place) (o : Option Met) → reached ≡ after_run b spent files state → state ≡ state_after end last
      → (end ≢ status.Spent → o ≡ None) → IsReadyIn further root part last o → IsReadyIn further root part (place_in reached.state) o
  ready_left c b from begins reached spent files state end last o e f none h =
      subst (λ (x : Cursor). IsReadyIn further root part (place_in x.state) o) (sym e) (subst (λ x. IsReadyIn further root part (place_in x) o) (sym f) (ready_at further root part end last o none h))

-- ---- on every store

pub made_run : {S O : Type 0} (contents : O → Option (List ℕ)) (before after : S) (old new : O) (c b : Cursor) (from : Option Place) (limits : MadeLimits) (pass : Pass) → Begins c b from
    → IsPass (contents old) (contents new) limits pass → (reached : Cursor) (state : State) → reached ≡ after_run b pass.spent pass.files state → state ≡ state_after pass.end pass.last
    → RunsOnAnyStore contents before after old new c limits (record { cursor = reached; spent = pass.spent; files = pass.files; found = pass.found; end = pass.end })
made_run contents before after old new c b from limits pass begins p reached state e f = record {
  worn = (λ x. absurd (p.works x), λ x. absurd (begins.unworn x));
  worn_cursor = λ x. absurd (p.works x);
  worn_figures = λ x. absurd (p.works x);
  worn_silent = λ x. absurd (p.works x);
  cursor = λ n. (pass.last, e ∙ ap (λ x. after_run x pass.spent pass.files state) begins.begun_is ∙ ap (λ x. after_run (begun c) pass.spent pass.files x) f);
  paid = p.paid;
  overrun = paid_within (limits_of limits) pass.spent pass.files p.paid;
  lines = p.lines;
}

-- ---- a run with no walk before it

pub ready_none : (further : Further) (root : StorageRoot) (part : Part) (from : Option Place) (kept : KeptWalk) → kept.met ≡ None → IsReady further root part from kept
ready_none further root part from kept none = subst (IsReadyIn further root part from) (sym none) tt

pub begins_so : (call : Call) (part : Part) (kept : KeptWalk) (c : Cursor) (l : Limits) (ran : RunEnd) → kept.met ≡ None → RunsOn call part (met_at kept) c l ran → RunsFromWithin call part c l ran
begins_so call part kept c l ran none h = subst (λ o. RunsOn call part (met_in o) c l ran) none h

pub cleanly_so : (further : Further) (root : StorageRoot) (part : Part) (s t : Store) (old new : Option (List ℕ)) (c : Cursor) (l : Limits) (ran : RunEnd) → t.failures ≡ s.failures
    → (ran.end ≢ status.Worn → RunsFromWithin (call_of further root s t old new) part c l ran) → RunsCleanlyWithin (call_of further root s t old new) part c l ran.spent ran.files ran.found ran.end
cleanly_so further root part s t old new c l ran same runs = by ran.end refl
  where
    clean : ran.end ≢ status.Worn → RunsCleanlyWithin (call_of further root s t old new) part c l ran.spent ran.files ran.found ran.end
    clean n = let h = runs n in runs_cleanly further root part s t old new c h.last l ran.spent ran.files ran.found same ran.end h.run

    by : (e : RunStatus) → ran.end ≡ e → RunsCleanlyWithin (call_of further root s t old new) part c l ran.spent ran.files ran.found e
    by status.Ended is = subst (RunsCleanlyWithin (call_of further root s t old new) part c l ran.spent ran.files ran.found) is (clean (λ x. cc))
    by status.Spent is = subst (RunsCleanlyWithin (call_of further root s t old new) part c l ran.spent ran.files ran.found) is (clean (λ x. cc))
    by (status.Stopped why) is = tt
    by status.Worn is = tt

-- ---- what it wrote

pub goes_on_reported : (further : Further) (root : StorageRoot) (s t : Store) (old new : Text) (part : Part) (o : Option Place) (c : Cursor) (l : Limits) (ran : RunEnd)
    → RunsOn (known_call further root s t old new) part o c l ran → HasReport further root old new part c l ran
goes_on_reported further root s t old new part None c l ran h = has_report further root s t old new part c l ran h
goes_on_reported further root s t old new part (Some p) c l ran h = has_report further root h.before h.behind old new part c l ran h.runs
