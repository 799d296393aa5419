use Rattle.std.proofs.Common.{◌≡◌, ◌∙◌, ◌++◌, ◌∷◌, [], append_assoc, inl, inr, rules, List, Option, None, arith, ap, false, refl, subst, sym}
use Rattle.std.proofs.{Math.Nat.{le_trans}, lemmas.{List.{append-nil}, Result.{err_from_is_err_and}}}
use Rattle.std.specs.Prelude.{IsTrue}
use Rattle.ocfl_tree.specs.{Place.{Text}, StorageRoot.{StorageRoot}}
use Rattle.ocfl_item.specs.Judging.{HasShortFiles}
use Rattle.ocfl_scrub.specs.{Keeping.{met_at}, Starting.{part_of}}
use Rattle.ocfl_terms.specs.{Clock.{Event, Asked, Read, Heard}, Counting.{counted}}
use Rattle.ocfl_night.specs.{Done.{Done, done_of, with_made}, Leaving.{LeadsOn, MayLeave}}
use Rattle.ocfl_state.specs.declared.checkpoint_parts.Phase.TheVariants.{Open}
use Rattle.ocfl_night.specs.Runs.{Run, IsRunOf, MayBeginAt, MayHaveLeft, StopsOpen, after_it, after_made, events_of, in_it, turn_of}
use Rattle.ocfl_night.specs.declared.pause.Pause.{Pause}
use Rattle.ocfl_night.specs.Looks.{Counts, IsOneOf, Known, WithLook, look_between, of_any}
use Rattle.ocfl_night.specs.Stopping.{ForRuns, IsGiven, IsPassedBy}
use Rattle.ocfl_night.specs.{Promises.{IfReadyIn, IsSafeIn, StopsNext}, Sound.{IsReady}}
use Rattle.ocfl_night.proofs.{Beginnings.{next_in}, KeptWalks.{walk_none}, Runs.{and_then, failed_so, led_by, none_yet, paused, paused_before, run_more}}
use Rattle.ocfl_night.proofs.Looks.{counts_none, counts_on, first_of, last_of, root_of}
use Rattle.ocfl_night.proofs.{Moments.{joined_moments, leaves_weaker, unmoved}, Sound.{ready_mark, ready_sound}}
use Rattle.ocfl_state.specs.Checkpoint.{Checkpoint}
use Rattle.ocfl_night.proofs.Whole.{grown_on, none_grown, run_grown}
use Rattle.ocfl_night.specs.{Ending.{place_or_pause}, Reading.{AreBeyond, AreDeclarations, HasRead, content_since, reached}}
use Rattle.ocfl_night.proofs.Reading.{beyond_more, goes_read, halts_read, next_reached, read_all, read_last, read_more, read_none}
use Rattle.ocfl_tree.specs.{Ascending.{IsAscending}, Place.{place_cmp}}
use Rattle.ocfl_state.specs.Crash.{LeavesOnly}
use Rattle.ocfl_night.specs.{Again.{GoesOn, TookOrBegan}, Ending.{cycle_of}, Halting.{AreFailed}, Promises.{IfThere}}
use Rattle.ocfl_night.proofs.{Again.{goes_more, goes_on_by, little_begun, little_last, little_more, little_none, little_now, same_cursor, unheard_begun, unheard_none, unheard_paused}, Beginnings.{made_in}}
use Rattle.ocfl_night.specs.Asking.{AskedFrom, GaveAll, IsDeclaredBy, declaring}
use Rattle.ocfl_night.proofs.Asking.{asked_named, err_holds, may_named}
use Rattle.ocfl_night.proofs.Halting.{begun_failed_so, none_failed, paused_failed_so, run_failed_so}
use Rattle.ocfl_night.proofs.nights.runs.Given as given
use Rattle.ocfl_night.proofs.nights.runs.Goals.{After-go_on_after}
use Rattle.ocfl_night.proofs.Reasons.{counted_on, endless_before, none_counted, passed_within, put_on, put_passed, put_reason, put_run, slice_reason, stops_at, said_within, worn_after, worn_out}
use Rattle.ocfl_night.proofs.nights.runs.Goals as goal
use Rattle.ocfl_report.specs.declared.further.Further.{Further}

-- a slice is made from an open checkpoint
is_open : (g : given.Over) (c : After-go_on_after g) → c.loop-run.checkpoint.phase ≡ Open
is_open g c = search rules

-- what was looked at before a slice that was made, and in it
module _ (g : given.Over) (c : After-go_on_after g) (tells : IsTrue g.T.Tree.told) (root : StorageRoot) (over : (g.T.Tree.state c.args.tree.now).tree ≡ root) (short : HasShortFiles root) where
  made_counts : Counts (g.T.Tree.state c.loop-run.tree) (g.T.Tree.state c.slice.new.tree)
  made_counts = c.slice.ensures.counts tells root (c.loop-run.invariant.root tells root over short) short (c.loop-run.invariant.walk tells root over short)

  -- each run checks what the first one does
  checks : c.loop-run.checkpoint.cursor.further ≡ c.args.start.cursor.further
  checks = c.loop-run.invariant.leads.alike.checks

  counts_then : Counts (g.T.Tree.state c.args.tree.now) (g.T.Tree.state c.slice.new.tree)
  counts_then = counts_on (c.loop-run.invariant.counts tells root over short) made_counts

  module _ (declares : AreDeclarations c.args.identity.now) where
    slice_beyond : AreBeyond (reached c.loop-run.checkpoint) (content_since c.loop-run.checkpoint.cursor.further root (g.T.Tree.state c.loop-run.tree) (g.T.Tree.state c.slice.new.tree))
    slice_beyond = c.slice.ensures.beyond declares tells root (c.loop-run.invariant.root tells root over short) short (c.loop-run.invariant.walk tells root over short)

    since_beyond : AreBeyond (reached c.loop-run.checkpoint) (content_since c.args.start.cursor.further root (g.T.Tree.state c.loop-run.tree) (g.T.Tree.state c.slice.new.tree))
    since_beyond = subst (λ (f : Further). AreBeyond (reached c.loop-run.checkpoint) (content_since f root (g.T.Tree.state c.loop-run.tree) (g.T.Tree.state c.slice.new.tree))) checks slice_beyond

    made_read : HasRead (g.T.Tree.state c.loop-run.tree) (g.T.Tree.state c.slice.new.tree) (reached c.loop-run.checkpoint) (reached c.in_ok-made.made.checkpoint) (place_or_pause c.in_ok-made.made.end) (content_since c.args.start.cursor.further root (g.T.Tree.state c.loop-run.tree) (g.T.Tree.state c.slice.new.tree))
    made_read =
        subst (λ (f : Further). HasRead (g.T.Tree.state c.loop-run.tree) (g.T.Tree.state c.slice.new.tree) (reached c.loop-run.checkpoint) (reached c.in_ok-made.made.checkpoint) (place_or_pause c.in_ok-made.made.end) (content_since f root (g.T.Tree.state c.loop-run.tree) (g.T.Tree.state c.slice.new.tree))) checks
        (c.in_ok-made.ensures.read declares tells root (c.loop-run.invariant.root tells root over short) short (c.loop-run.invariant.walk tells root over short))

    beyond_then : AreBeyond (reached c.args.start) (content_since c.args.start.cursor.further root (g.T.Tree.state c.args.tree.now) (g.T.Tree.state c.slice.new.tree))
    beyond_then = beyond_more c.args.start.cursor.further root (c.loop-run.invariant.counts tells root over short) made_counts (c.loop-run.invariant.read tells root over short declares) since_beyond

  module _ (known : Option Known) (one : IsOneOf known (look_between c.args.start.cursor.further root (g.T.Tree.state c.args.tree.now) (g.T.Tree.state c.slice.new.tree))) where
    one_before : IsOneOf known (look_between c.args.start.cursor.further root (g.T.Tree.state c.args.tree.now) (g.T.Tree.state c.loop-run.tree))
    one_before = first_of c.args.start.cursor.further root known (c.loop-run.invariant.counts tells root over short) made_counts one

    one_in : IsOneOf known (look_between c.args.start.cursor.further root (g.T.Tree.state c.loop-run.tree) (g.T.Tree.state c.slice.new.tree))
    one_in = last_of c.args.start.cursor.further root known (c.loop-run.invariant.counts tells root over short) made_counts one

    made_ready : IsTrue g.S.StateFolder.told → (t : Text)
        → IsReady g.S.StateFolder (record { part = part_of c.args.part.now; further = c.args.start.cursor.further; known = known }) t c.args.start c.args.folder.now
        → IsReady g.S.StateFolder (record { part = part_of c.args.part.now; further = c.args.start.cursor.further; known = known }) t c.in_ok-made.made.checkpoint c.slice.new.folder
    made_ready told t r =
        let inv = c.loop-run.invariant in
        subst (λ (f : Further). WithLook f (part_of c.args.part.now) (look_between f root (g.T.Tree.state c.loop-run.tree) (g.T.Tree.state c.slice.new.tree))
        (λ rounds. IfReadyIn g.S.StateFolder rounds c.loop-run.checkpoint c.loop-run.folder (λ u. IsReady g.S.StateFolder rounds u c.in_ok-made.made.checkpoint c.slice.new.folder))) checks
        (c.in_ok-made.ensures.ready told tells root (inv.root tells root over short) short (inv.walk tells root over short))
        known one_in t (inv.ready told tells root over short known one_before t r)

    stops_next : StopsNext (record { part = part_of c.args.part.now; further = c.args.start.cursor.further; known = known }) c.in_ok-made.made
    stops_next p is =
        let inv = c.loop-run.invariant in
        (root, (root_of known _ one_in, c.in_ok-made.ensures.stops tells root (inv.root tells root over short) short (inv.walk tells root over short) p is))

    -- after it, and what is done after it
    moments : IsTrue g.S.StateFolder.told → IsSafeIn g.S.StateFolder (record { part = part_of c.args.part.now; further = c.args.start.cursor.further; known = known }) c.args.start c.args.folder.now c.go_on_after.new.folder
    moments told t r =
        let inv = c.loop-run.invariant in
        joined_moments
        (joined_moments (inv.any_moment told tells root over short known one_before t r)
        (subst (λ (f : Further). WithLook f (part_of c.args.part.now) (look_between f root (g.T.Tree.state c.loop-run.tree) (g.T.Tree.state c.slice.new.tree))
        (λ rounds. IsSafeIn g.S.StateFolder rounds c.loop-run.checkpoint c.loop-run.folder c.slice.new.folder)) checks
        (c.slice.ensures.any_moment told tells root (inv.root tells root over short) short (inv.walk tells root over short))
        known one_in t (inv.ready told tells root over short known one_before t r)))
        (c.go_on_after.ensures.any_moment told (record { part = part_of c.args.part.now; further = c.args.start.cursor.further; known = known }) stops_next t (made_ready told t r))

-- a run that was made, and what the clock heard of it
module _ (g : given.Over) (c : After-go_on_after g) (told : IsTrue (g.C.Clock.told c.hears.new.self)) where
  abbrev run : Run
  run = record { now = c.in-Ok.allowed.1; made = c.in_ok-made.made }

  told_then : IsTrue (g.C.Clock.told c.allowed.new.clock)
  told_then = c.hears.ensures.told told

  told_before : IsTrue (g.C.Clock.told c.loop-run.clock)
  told_before = c.in-Ok.ensures.told told_then

  may : MayBeginAt c.args.plan.now (done_of c.loop-run.tally) c.loop-run.checkpoint c.in-Ok.allowed.1
  may = let is = c.in-Ok.ensures.allowed told_then in record { goes_on = is_open g c; in_time = is.1; files = is.2 }

  is_run : IsRunOf c.args.plan.now (done_of c.loop-run.tally) c.loop-run.checkpoint run
  is_run = let is = c.in-Ok.ensures.allowed told_then in record { may = may; limits = c.in-Ok.allowed.0; budget = is.3; files = is.4; made = c.in_ok-made.ensures.slice }

  heard : g.C.Clock.events c.hears.new.self ≡ g.C.Clock.events c.loop-run.clock ++ events_of run
  heard = c.hears.ensures.event told ∙ ap (λ (x : List Event). x ++ Heard c.in_ok-made.made ∷ []) (c.in-Ok.ensures.allowed told_then).0 ∙ append_assoc (g.C.Clock.events c.loop-run.clock) _ _

-- where a run leads, with what was left out for it
turned : (g : given.Over) (c : After-go_on_after g) {next : Checkpoint × Option Pause} → c.loop-run.checkpoint.phase ≡ Open → (StopsOpen c.in_ok-made.made → turn_of (done_of c.go_on_after.new.tally) next ≡ after_made c.args.plan.now.stop_at_faults (done_of c.count.new.self) c.in_ok-made.made)
    → LeadsOn c.loop-run.checkpoint c.loop-run.tally.left.items next.0 c.go_on_after.new.tally.left.items
turned g c going led =
    run_grown c.args.plan.now (done_of c.loop-run.tally) (record { now = c.in-Ok.allowed.1; made = c.in_ok-made.made }) c.in_ok-made.ensures.slice (led_by c.args.plan.now (done_of c.loop-run.tally) c.in-Ok.allowed.1 going c.in_ok-made.ensures.slice c.begin.ensures.done c.count.ensures.done led)

-- one run more is counted
one_run : (g : given.Over) (c : After-go_on_after g) → c.go_on_after.new.tally.runs ≡ counted c.loop-run.tally.runs 1
one_run g c = c.go_on_after.ensures.runs ∙ ap (λ (d : Done). d.runs) c.count.ensures.done ∙ ap (λ (d : Done). d.runs) c.begin.ensures.done

-- what a slice opened, and what a crash left meanwhile
module _ (g : given.Over) (c : After-go_on_after g) (tells : IsTrue g.T.Tree.told) (root : StorageRoot) (over : (g.T.Tree.state c.args.tree.now).tree ≡ root) (short : HasShortFiles root) (declares : AreDeclarations c.args.identity.now) where
  slice_once : IsAscending place_cmp (content_since c.loop-run.checkpoint.cursor.further root (g.T.Tree.state c.loop-run.tree) (g.T.Tree.state c.slice.new.tree))
  slice_once = c.slice.ensures.once declares tells root (c.loop-run.invariant.root tells root over short) short (c.loop-run.invariant.walk tells root over short)

  slice_took : TookOrBegan (reached c.in_ok-made.made.checkpoint) c.in_ok-made.made.end (content_since c.loop-run.checkpoint.cursor.further root (g.T.Tree.state c.loop-run.tree) (g.T.Tree.state c.slice.new.tree))
  slice_took = c.in_ok-made.ensures.took declares tells root (c.loop-run.invariant.root tells root over short) short (c.loop-run.invariant.walk tells root over short)

  slice_crash : IsTrue g.S.StateFolder.told → (t : Text) → IsReady g.S.StateFolder (of_any c.args.start.cursor.further (part_of c.args.part.now)) t c.args.start c.args.folder.now
      → LeavesOnly g.S.StateFolder.moment g.S.StateFolder.left_since c.loop-run.folder c.go_on_after.new.folder (λ d. IfThere d (GoesOn c.loop-run.checkpoint))
  slice_crash told t r =
      let inv = c.loop-run.invariant in
      let part = of_any c.args.start.cursor.further (part_of c.args.part.now) in
      let going = is_open g c in
      let next : GoesOn c.loop-run.checkpoint c.in_ok-made.made.checkpoint = inr (sym (made_in going c.in_ok-made.ensures.slice), (made_read g c tells root over short declares).stays) in
      joined_moments
      (c.slice.ensures.crash told declares tells root (inv.root tells root over short) short (inv.walk tells root over short) part t (inv.ready told tells root over short None tt t r))
      (leaves_weaker (λ d there l at. goes_more c.loop-run.checkpoint c.in_ok-made.made.checkpoint l next (there l at)) (c.go_on_after.ensures.crash told part t (made_ready g c tells root over short None tt told t r)))

-- and what its store was asked for
slice_asked : (g : given.Over) (c : After-go_on_after g) (tells : IsTrue g.T.Tree.told) (root : StorageRoot) → (g.T.Tree.state c.args.tree.now).tree ≡ root → HasShortFiles root → IsDeclaredBy root c.args.identity.now
    → AskedFrom root (part_of c.args.part.now) (declaring root) (met_at c.loop-run.kept) c.loop-run.checkpoint (GaveAll c.loop-run.checkpoint c.in_ok-made.made) (g.T.Tree.state c.loop-run.tree) (g.T.Tree.state c.slice.new.tree)
slice_asked g c tells root over short named =
    let inv = c.loop-run.invariant in
    asked_named root (part_of c.args.part.now) (met_at c.loop-run.kept) c.loop-run.checkpoint named (c.in_ok-made.ensures.asks tells root (inv.root tells root over short) short (inv.walk tells root over short))

-- the store failed where runs stopped

failed_then : (g : given.Over) (c : After-go_on_after g) (told : IsTrue (g.C.Clock.told c.hears.new.self)) (tells : IsTrue g.T.Tree.told) (root : StorageRoot) → (g.T.Tree.state c.args.tree.now).tree ≡ root → HasShortFiles root
    → AreFailed (g.C.Clock.events c.args.clock.now) (g.C.Clock.events c.hears.new.self) (g.T.Tree.state c.args.tree.now) (g.T.Tree.state c.slice.new.tree)
failed_then g c told tells root over short =
    let inv = c.loop-run.invariant in
    run_failed_so (run g c told) (inv.failed (told_before g c told) tells root over short) (heard g c told) (made_counts g c tells root over short) (c.in_ok-made.ensures.failed tells root (inv.root tells root over short) short (inv.walk tells root over short))

pub loop-run-init : goal.loop-run-init
loop-run-init g c = record {
  any_moment = λ told tells root over short known one t r. unmoved (g.met.S.StateFolder.only_now told) (ready_sound r);
  ready = λ told tells root over short known one t r. r;
  counts = λ tells root over short. counts_none (g.T.Tree.state c.args.tree.now);
  read = λ tells root over short declares. read_none c.args.start.cursor.further root (g.T.Tree.state c.args.tree.now) (reached c.args.start);
  closed = λ told. refl;
  cycle = refl;
  told = λ told. none_yet;
  failed = λ told tells root over short. none_failed;
  again = λ told tells_folder declares tells root over short named t r. little_none root (part_of c.args.part.now) g.S.StateFolder (cycle_of c.args.start) (g.C.Clock.events c.args.clock.now) (g.T.Tree.state c.args.tree.now) c.args.folder.now c.args.start c.none-kept.result c.none-kept.ensures;
  faults = λ told. omega arith;
  at = λ told at. at;
  counted = none_counted c.args.start c.args.tally.now.runs;
  passed = omega arith;
  leads = none_grown;
  left = λ may. may;
  root = λ tells root over short. over;
  walk = λ tells root over short. walk_none root (part_of c.args.part.now) c.args.start c.none-kept.result c.none-kept.ensures;
}

pub returns-in_err-made-clause-any_moment : goal.returns-in_err-made-clause-any_moment
returns-in_err-made-clause-any_moment g c = λ told tells root over short known one t r.
    let inv = c.loop-run.invariant in
    let counts : Counts (g.T.Tree.state c.loop-run.tree) (g.T.Tree.state c.slice.new.tree) = c.slice.ensures.counts tells root (inv.root tells root over short) short (inv.walk tells root over short) in
    let before = first_of c.args.start.cursor.further root known (inv.counts tells root over short) counts one in
    joined_moments (inv.any_moment told tells root over short known before t r)
    (subst (λ (f : Further). WithLook f (part_of c.args.part.now) (look_between f root (g.T.Tree.state c.loop-run.tree) (g.T.Tree.state c.slice.new.tree))
    (λ rounds. IsSafeIn g.S.StateFolder rounds c.loop-run.checkpoint c.loop-run.folder c.slice.new.folder)) inv.leads.alike.checks
    (c.slice.ensures.any_moment told tells root (inv.root tells root over short) short (inv.walk tells root over short))
    known (last_of c.args.start.cursor.further root known (inv.counts tells root over short) counts one) t (inv.ready told tells root over short known before t r))

pub returns-in_err-next-clause-any_moment : goal.returns-in_err-next-clause-any_moment
returns-in_err-next-clause-any_moment g c = λ told tells root over short known one.
    moments g (goal.at.returns-in_err-next-clause-any_moment g c).After-go_on_after tells root over short known one told

pub returns-in-Some-clause-any_moment : goal.returns-in-Some-clause-any_moment
returns-in-Some-clause-any_moment g c = λ told tells root over short known one. moments g (goal.at.returns-in-Some-clause-any_moment g c).After-go_on_after tells root over short known one told

pub returns-in-Err-clause-counts : goal.returns-in-Err-clause-counts
returns-in-Err-clause-counts g c = λ tells root over short. c.loop-run.invariant.counts tells root over short

pub returns-clause-counts : goal.returns-clause-counts
returns-clause-counts g c = λ tells root over short. c.loop-run.invariant.counts tells root over short

pub returns-in_err-made-clause-counts : goal.returns-in_err-made-clause-counts
returns-in_err-made-clause-counts g c = λ tells root over short.
    let inv = c.loop-run.invariant in
    counts_on (inv.counts tells root over short) (c.slice.ensures.counts tells root (inv.root tells root over short) short (inv.walk tells root over short))

pub returns-in_err-next-clause-counts : goal.returns-in_err-next-clause-counts
returns-in_err-next-clause-counts g c = λ tells root over short. counts_then g (goal.at.returns-in_err-next-clause-counts g c).After-go_on_after tells root over short

pub returns-in-Some-clause-counts : goal.returns-in-Some-clause-counts
returns-in-Some-clause-counts g c = λ tells root over short. counts_then g (goal.at.returns-in-Some-clause-counts g c).After-go_on_after tells root over short

pub returns-in-Err-clause-root : goal.returns-in-Err-clause-root
returns-in-Err-clause-root g c = λ tells root over short. c.loop-run.invariant.root tells root over short

pub returns-clause-root : goal.returns-clause-root
returns-clause-root g c = λ tells root over short. c.loop-run.invariant.root tells root over short

pub returns-in_err-made-clause-root : goal.returns-in_err-made-clause-root
returns-in_err-made-clause-root g c = λ tells root over short.
    let inv = c.loop-run.invariant in
    c.slice.ensures.root tells root (inv.root tells root over short) short (inv.walk tells root over short)

pub returns-in_err-next-clause-root : goal.returns-in_err-next-clause-root
returns-in_err-next-clause-root g c = λ tells root over short.
    let inv = c.loop-run.invariant in
    c.slice.ensures.root tells root (inv.root tells root over short) short (inv.walk tells root over short)

pub returns-in-Some-clause-root : goal.returns-in-Some-clause-root
returns-in-Some-clause-root g c = λ tells root over short.
    let inv = c.loop-run.invariant in
    c.slice.ensures.root tells root (inv.root tells root over short) short (inv.walk tells root over short)

pub returns-in-Some-clause-ready : goal.returns-in-Some-clause-ready
returns-in-Some-clause-ready g c = λ told tells root over short known one t r.
    let at = (goal.at.returns-in-Some-clause-ready g c).After-go_on_after in
    c.in_ok-next.ensures.ready told (record { part = part_of c.args.part.now; further = c.args.start.cursor.further; known = known }) (stops_next g at tells root over short known one) t (made_ready g at tells root over short known one told t r)

pub returns-in-Some-clause-closed : goal.returns-in-Some-clause-closed
returns-in-Some-clause-closed g c = λ told. c.in_ok-next.ensures.closed told ∙ c.in_ok-made.ensures.closed told ∙ c.loop-run.invariant.closed told

pub returns-in-Some-clause-cycle : goal.returns-in-Some-clause-cycle
returns-in-Some-clause-cycle g c =
    next_in c.args.plan.now.stop_at_faults (done_of c.count.new.self) (done_of c.go_on_after.new.tally) (c.in_ok-next.next, c.in_ok-next.pause) (is_open g (goal.at.returns-in-Some-clause-cycle g c).After-go_on_after) c.in_ok-made.ensures.slice c.in_ok-next.ensures.turn ∙ c.loop-run.invariant.cycle

pub loop-run-preserved : goal.loop-run-preserved
loop-run-preserved g c =
    let inv = c.loop-run.invariant in
    let at = (goal.at.loop-run-preserved g c).After-go_on_after in
    record {
      any_moment = λ told tells root over short known one. moments g at tells root over short known one told;
      ready = λ told tells root over short known one t r. c.in_ok-next.ensures.ready told (record { part = part_of c.args.part.now; further = c.args.start.cursor.further; known = known }) (stops_next g at tells root over short known one) t (made_ready g at tells root over short known one told t r);
      counts = counts_then g at;
      read = λ tells root over short declares.
          read_more c.args.start.cursor.further root (inv.counts tells root over short) (made_counts g at tells root over short) (inv.read tells root over short declares) (since_beyond g at tells root over short declares)
          (next_reached c.args.plan.now.stop_at_faults (done_of c.count.new.self) (done_of c.go_on_after.new.tally) (c.in_ok-next.next, c.in_ok-next.pause) (is_open g at) c.in_ok-made.ensures.slice c.in_ok-next.ensures.turn) (made_read g at tells root over short declares)
          (goes_read c.args.plan.now.stop_at_faults (done_of c.count.new.self) (done_of c.go_on_after.new.tally) (c.in_ok-next.next, c.in_ok-next.pause) (is_open g at) c.in_ok-made.ensures.slice c.in_ok-next.ensures.turn c.in_default.is _ _);
      closed = λ told. c.in_ok-next.ensures.closed told ∙ c.in_ok-made.ensures.closed told ∙ inv.closed told;
      faults = λ told. le_trans (inv.faults told) (le_trans (c.in_ok-made.ensures.stop told) (c.in_ok-next.ensures.stop told));
      at = λ told there. c.in_ok-next.ensures.at told (c.in_ok-made.ensures.at told (inv.at told there));
      counted = counted_on c.args.plan.now.stop_at_faults (done_of c.count.new.self) (done_of c.go_on_after.new.tally) c.args.start (c.in_ok-next.next, c.in_ok-next.pause) (is_open g at) c.in_ok-made.ensures.slice c.in_ok-next.ensures.turn inv.counted (one_run g at);
      passed = let one = one_run g at in omega (arith, inv.passed, c.loop-run-test.true);
      leads = grown_on inv.leads (turned g at (is_open g at) c.in_ok-next.ensures.turn);
      cycle = next_in c.args.plan.now.stop_at_faults (done_of c.count.new.self) (done_of c.go_on_after.new.tally) (c.in_ok-next.next, c.in_ok-next.pause) (is_open g at) c.in_ok-made.ensures.slice c.in_ok-next.ensures.turn ∙ inv.cycle;
      told = λ told. run_more (run g at told) (inv.told (told_before g at told)) (heard g at told) (is_run g at told) (led_by c.args.plan.now (done_of c.loop-run.tally) c.in-Ok.allowed.1 (may g at told).goes_on c.in_ok-made.ensures.slice c.begin.ensures.done c.count.ensures.done c.in_ok-next.ensures.turn ∙ ap (λ (o : Option Pause). turn_of (done_of c.go_on_after.new.tally) (c.in_ok-next.next, o)) c.in_default.is);
      failed = λ told tells root over short. failed_then g at told tells root over short;
      again = λ told folder_told declares tells root over short named t r.
          little_more (inv.again (told_before g at told) folder_told declares tells root over short named t r) inv.cycle (g.T.Tree.state c.slice.new.tree) c.go_on_after.new.folder
          (slice_beyond g at tells root over short declares) (slice_once g at tells root over short declares) (slice_crash g at tells root over short declares folder_told t r) (inv.at folder_told r.at)
          (run g at told) (heard g at told) (slice_asked g at tells root over short named) (slice_took g at tells root over short declares) (made_read g at tells root over short declares).stays
          (next_reached c.args.plan.now.stop_at_faults (done_of c.count.new.self) (done_of c.go_on_after.new.tally) (c.in_ok-next.next, c.in_ok-next.pause) (is_open g at) c.in_ok-made.ensures.slice c.in_ok-next.ensures.turn)
          (goes_on_by c.args.plan.now.stop_at_faults (done_of c.count.new.self) (done_of c.go_on_after.new.tally) (c.in_ok-next.next, c.in_ok-next.pause) (is_open g at) c.in_ok-made.ensures.slice c.in_ok-next.ensures.turn c.in_default.is)
          (c.in_ok-next.ensures.at folder_told (c.in_ok-made.ensures.at folder_told (inv.at folder_told r.at)))
          (same_cursor c.args.plan.now.stop_at_faults (done_of c.count.new.self) (done_of c.go_on_after.new.tally) (c.in_ok-next.next, c.in_ok-next.pause) (is_open g at) c.in_ok-made.ensures.slice c.in_ok-next.ensures.turn)
          (c.go_on_after.ensures.met c.in_ok-made.ensures.met);
      left = λ may. c.go_on_after.ensures.left (subst (MayLeave c.args.plan.now.stop_at_faults) (sym (ap (λ (x : Done). x.left) c.count.ensures.done ∙ ap (λ (x : Done). x.left) c.begin.ensures.done)) (inv.left may));
      root = λ tells root over short. c.slice.ensures.root tells root (inv.root tells root over short) short (inv.walk tells root over short);
      walk = λ tells root over short. c.in_ok-next.ensures.walk (part_of c.args.part.now) root (c.in_ok-made.ensures.walk tells root (inv.root tells root over short) short (inv.walk tells root over short));
    }

pub returns-in-Err-clause-told : goal.returns-in-Err-clause-told
returns-in-Err-clause-told g c = λ told. paused_before c.in-Err.pause (c.loop-run.invariant.told (c.in-Err.ensures.told told)) (search rules) (c.in-Err.ensures.allowed told)

pub returns-clause-told : goal.returns-clause-told
returns-clause-told g c = λ told. and_then [] (c.loop-run.invariant.told told) (sym (append-nil _)) (inr (refl, refl))

pub returns-in_err-made-clause-told : goal.returns-in_err-made-clause-told
returns-in_err-made-clause-told g c = λ told.
    let is = c.in-Ok.ensures.allowed told in
    let p = err_from_is_err_and c.from_residual.result c.from_residual.ensures.1 in
    and_then (Asked false ∷ Read c.in-Ok.allowed.1 ∷ []) (c.loop-run.invariant.told (c.in-Ok.ensures.told told)) is.0
    (failed_so c.args.plan.now (done_of c.loop-run.tally) (done_of c.begin.new.self) c.loop-run.checkpoint _ p.1 (inl (in_it c.in-Ok.allowed.1 (record { goes_on = search rules; in_time = is.1; files = is.2 }) refl c.begin.ensures.done)))

pub returns-in_err-next-clause-told : goal.returns-in_err-next-clause-told
returns-in_err-next-clause-told g c = λ told.
    let at = (goal.at.returns-in_err-next-clause-told g c).After-go_on_after in
    let p = err_from_is_err_and c.from_residual-in_err-next.result c.from_residual-in_err-next.ensures.1 in
    let runs = c.go_on_after.ensures.runs ∙ ap (λ (d : Done). d.runs) c.count.ensures.done ∙ ap (λ (d : Done). d.runs) c.begin.ensures.done in
    let left = subst (λ (d : Done). MayHaveLeft c.args.plan.now.stop_at_faults d c.in_ok-made.made (done_of c.go_on_after.new.tally)) (c.count.ensures.done ∙ ap (with_made c.in_ok-made.made) c.begin.ensures.done) c.in_err-next.ensures.broken in
    and_then (events_of (run g at told)) (c.loop-run.invariant.told (told_before g at told)) (heard g at told)
    (failed_so c.args.plan.now (done_of c.loop-run.tally) (done_of c.go_on_after.new.tally) c.loop-run.checkpoint _ p.1 (inl (after_it (run g at told) (is_run g at told) refl runs left)))

pub returns-in-Some-clause-told : goal.returns-in-Some-clause-told
returns-in-Some-clause-told g c = λ told.
    let at = (goal.at.returns-in-Some-clause-told g c).After-go_on_after in
    let halts = led_by c.args.plan.now (done_of c.loop-run.tally) c.in-Ok.allowed.1 (may g at told).goes_on c.in_ok-made.ensures.slice c.begin.ensures.done c.count.ensures.done c.in_ok-next.ensures.turn ∙ ap (λ (o : Option Pause). turn_of (done_of c.go_on_after.new.tally) (c.in_ok-next.next, o)) c.in-Some.is in
    and_then (events_of (run g at told)) (c.loop-run.invariant.told (told_before g at told)) (heard g at told) (paused c.in-Some.pause (is_run g at told) halts)

pub returns-in-Some-clause-leads : goal.returns-in-Some-clause-leads
returns-in-Some-clause-leads g c =
    let at = (goal.at.returns-in-Some-clause-leads g c).After-go_on_after in
    grown_on c.loop-run.invariant.leads (turned g at (is_open g at) c.in_ok-next.ensures.turn)

pub returns-then-ne-clause-stop : goal.returns-then-ne-clause-stop
returns-then-ne-clause-stop g c = λ may given. c.loop-run.invariant.faults given.folder

pub returns-in-Err-clause-stop : goal.returns-in-Err-clause-stop
returns-in-Err-clause-stop g c = λ may given. c.loop-run.invariant.faults given.folder

pub returns-in-Some-clause-stop : goal.returns-in-Some-clause-stop
returns-in-Some-clause-stop g c = λ may given.
    le_trans (c.loop-run.invariant.faults given.folder) (le_trans (c.in_ok-made.ensures.stop given.folder) (c.in_ok-next.ensures.stop given.folder))

pub returns-in_err-made-clause-stop : goal.returns-in_err-made-clause-stop
returns-in_err-made-clause-stop g c = λ may.
    let p = err_from_is_err_and c.from_residual.result c.from_residual.ensures.1 in
    let why = c.in_err-made.field-0.0 in
    let inv = c.loop-run.invariant in
    let going : c.loop-run.checkpoint.phase ≡ Open = search rules in
    let begun : c.begin.new.self.runs ≡ counted c.loop-run.tally.runs 1 = ap (λ (d : Done). d.runs) c.begin.ensures.done in
    let there = (t : Text) × IsReady g.S.StateFolder (of_any c.args.start.cursor.further (part_of c.args.part.now)) t c.args.start c.args.folder.now in
    let given = IsGiven g.S.StateFolder.told g.T.Tree.told (g.T.Tree.state c.args.tree.now) there in
    stops_at given (ForRuns ⊥ c.args.start c.begin.new.self.runs) _ _ c.from_residual.result why (cc (p.1, p.2))
    (slice_reason (IsTrue g.S.StateFolder.told) given ⊥ c.in-Ok.allowed.0 c.args.start c.loop-run.checkpoint (g.S.StateFolder.seen c.loop-run.folder) c.begin.new.self.runs _ (g.S.StateFolder.faults c.loop-run.folder) _ why
    (λ l run. put_on inv.leads.alike inv.cycle (put_run going run))
    (λ at. at.folder) (λ at. inv.faults at.folder)
    (λ at. ready_mark going (inv.ready at.folder at.store _ refl at.short None tt at.holds.0 at.holds.1))
    (λ at. said_within (inv.ready at.folder at.store _ refl at.short None tt at.holds.0 at.holds.1).stands)
    (worn_after c.args.start c.loop-run.checkpoint going inv.cycle inv.counted (omega (arith, begun)))
    (endless_before inv.leads (inv.left may).ends)
    c.in_err-made.ensures.stop)

pub returns-in_err-next-clause-stop : goal.returns-in_err-next-clause-stop
returns-in_err-next-clause-stop g c = λ may.
    let r = c.from_residual-in_err-next.result in
    let p = err_from_is_err_and r c.from_residual-in_err-next.ensures.1 in
    let why = c.in_err-next.field-0.0 in
    let at = (goal.at.returns-in_err-next-clause-stop g c).After-go_on_after in
    let inv = c.loop-run.invariant in
    let going = is_open g at in
    let there = (t : Text) × IsReady g.S.StateFolder (of_any c.args.start.cursor.further (part_of c.args.part.now)) t c.args.start c.args.folder.now in
    let given = IsGiven g.S.StateFolder.told g.T.Tree.told (g.T.Tree.state c.args.tree.now) there in
    stops_at given (ForRuns ⊥ c.args.start c.go_on_after.new.tally.runs) _ _ r why (cc (p.1, p.2))
    (put_reason (IsTrue g.S.StateFolder.told) given ⊥ (IsPassedBy c.in_ok-made.made) c.args.start c.go_on_after.new.tally.runs _ (g.S.StateFolder.faults c.slice.new.folder) _ why
    (λ l passed. put_on inv.leads.alike inv.cycle (put_passed going c.in_ok-made.ensures.slice passed))
    (λ x. x.folder)
    (λ x. le_trans (c.loop-run.invariant.faults x.folder) (c.in_ok-made.ensures.stop x.folder))
    (λ x l passed. passed_within c.in_ok-made.made (said_within (made_ready g at x.store _ refl x.short None tt x.folder x.holds.0 x.holds.1).stands) passed)
    c.in_err-next.ensures.stop)

pub returns-clause-stop : goal.returns-clause-stop
returns-clause-stop g c = λ may. worn_out c.args.start c.loop-run.tally.runs (omega (arith, c.loop-run.invariant.passed, c.loop-run-test.false))

pub returns-in-Some-clause-at : goal.returns-in-Some-clause-at
returns-in-Some-clause-at g c = λ told there. c.in_ok-next.ensures.at told (c.in_ok-made.ensures.at told (c.loop-run.invariant.at told there))

pub returns-then-ne-clause-at : goal.returns-then-ne-clause-at
returns-then-ne-clause-at g c = λ told there. c.loop-run.invariant.at told there

pub returns-in-Err-clause-at : goal.returns-in-Err-clause-at
returns-in-Err-clause-at g c = λ told there. c.loop-run.invariant.at told there

pub returns-in-Err-clause-beyond : goal.returns-in-Err-clause-beyond
returns-in-Err-clause-beyond g c = λ declares tells root over short. (c.loop-run.invariant.read tells root over short declares).beyond

pub returns-clause-beyond : goal.returns-clause-beyond
returns-clause-beyond g c = λ declares tells root over short. (c.loop-run.invariant.read tells root over short declares).beyond

pub returns-in_err-made-clause-beyond : goal.returns-in_err-made-clause-beyond
returns-in_err-made-clause-beyond g c = λ declares tells root over short.
    let inv = c.loop-run.invariant in
    let here = inv.root tells root over short in
    let walk = inv.walk tells root over short in
    beyond_more c.args.start.cursor.further root (inv.counts tells root over short) (c.slice.ensures.counts tells root here short walk) (inv.read tells root over short declares)
    (subst (λ (f : Further). AreBeyond (reached c.loop-run.checkpoint) (content_since f root (g.T.Tree.state c.loop-run.tree) (g.T.Tree.state c.slice.new.tree))) inv.leads.alike.checks (c.slice.ensures.beyond declares tells root here short walk))

pub returns-in_err-next-clause-beyond : goal.returns-in_err-next-clause-beyond
returns-in_err-next-clause-beyond g c = λ declares tells root over short. beyond_then g (goal.at.returns-in_err-next-clause-beyond g c).After-go_on_after tells root over short declares

pub returns-in-Some-clause-beyond : goal.returns-in-Some-clause-beyond
returns-in-Some-clause-beyond g c = λ declares tells root over short. beyond_then g (goal.at.returns-in-Some-clause-beyond g c).After-go_on_after tells root over short declares

pub returns-in-Err-clause-read : goal.returns-in-Err-clause-read
returns-in-Err-clause-read g c = λ declares tells root over short. read_all _ (c.loop-run.invariant.read tells root over short declares)

pub returns-in-Some-clause-read : goal.returns-in-Some-clause-read
returns-in-Some-clause-read g c = λ declares tells root over short.
    let at = (goal.at.returns-in-Some-clause-read g c).After-go_on_after in
    read_last c.args.start.cursor.further root (c.loop-run.invariant.counts tells root over short) (made_counts g at tells root over short) (c.loop-run.invariant.read tells root over short declares) (since_beyond g at tells root over short declares)
    (next_reached c.args.plan.now.stop_at_faults (done_of c.count.new.self) (done_of c.go_on_after.new.tally) (c.in_ok-next.next, c.in_ok-next.pause) (is_open g at) c.in_ok-made.ensures.slice c.in_ok-next.ensures.turn) (made_read g at tells root over short declares)
    (halts_read c.args.plan.now.stop_at_faults (done_of c.count.new.self) (done_of c.go_on_after.new.tally) (c.in_ok-next.next, c.in_ok-next.pause) (is_open g at) c.in_ok-made.ensures.slice c.in_ok-next.ensures.turn c.in-Some.is _ _ c.in_ok-next.next.cursor.cycle)

pub returns-then-ne-clause-read : goal.returns-then-ne-clause-read
returns-then-ne-clause-read g c = λ declares tells root over short. read_all _ (c.loop-run.invariant.read tells root over short declares)

pub returns-in-Err-clause-failed : goal.returns-in-Err-clause-failed
returns-in-Err-clause-failed g c = λ told tells root over short. paused_failed_so c.args.plan.now (done_of c.loop-run.tally) c.in-Err.pause (c.loop-run.invariant.failed (c.in-Err.ensures.told told) tells root over short) (c.in-Err.ensures.allowed told)

pub returns-clause-failed : goal.returns-clause-failed
returns-clause-failed g c = λ told tells root over short. c.loop-run.invariant.failed told tells root over short

pub returns-in_err-made-clause-failed : goal.returns-in_err-made-clause-failed
returns-in_err-made-clause-failed g c = λ told tells root over short.
    let inv = c.loop-run.invariant in
    begun_failed_so c.in-Ok.allowed.1 (inv.failed (c.in-Ok.ensures.told told) tells root over short) (c.in-Ok.ensures.allowed told).0 (c.slice.ensures.counts tells root (inv.root tells root over short) short (inv.walk tells root over short))

pub returns-in_err-next-clause-failed : goal.returns-in_err-next-clause-failed
returns-in_err-next-clause-failed g c = λ told tells root over short. failed_then g (goal.at.returns-in_err-next-clause-failed g c).After-go_on_after told tells root over short

pub returns-in-Some-clause-failed : goal.returns-in-Some-clause-failed
returns-in-Some-clause-failed g c = λ told tells root over short. failed_then g (goal.at.returns-in-Some-clause-failed g c).After-go_on_after told tells root over short

pub returns-then-ne-clause-again : goal.returns-then-ne-clause-again
returns-then-ne-clause-again g c = λ told folder_told declares tells root over short named t r.
    let inv = c.loop-run.invariant in
    little_now (inv.again told folder_told declares tells root over short named t r) inv.cycle (g.met.S.StateFolder.only_now folder_told) (inv.ready folder_told tells root over short None tt t r) unheard_none

pub returns-in-Err-clause-again : goal.returns-in-Err-clause-again
returns-in-Err-clause-again g c = λ told folder_told declares tells root over short named t r.
    let inv = c.loop-run.invariant in
    little_now (inv.again (c.in-Err.ensures.told told) folder_told declares tells root over short named t r) inv.cycle (g.met.S.StateFolder.only_now folder_told) (inv.ready folder_told tells root over short None tt t r)
    (unheard_paused c.args.plan.now (done_of c.loop-run.tally) c.in-Err.pause (c.in-Err.ensures.allowed told))

pub returns-clause-again : goal.returns-clause-again
returns-clause-again g c = λ told folder_told declares tells root over short named t r.
    let inv = c.loop-run.invariant in
    little_now (inv.again told folder_told declares tells root over short named t r) inv.cycle (g.met.S.StateFolder.only_now folder_told) (inv.ready folder_told tells root over short None tt t r) unheard_none

pub returns-in_err-made-clause-again : goal.returns-in_err-made-clause-again
returns-in_err-made-clause-again g c = λ told folder_told declares tells root over short named t r.
    let inv = c.loop-run.invariant in
    let there = inv.root tells root over short in
    let walk = inv.walk tells root over short in
    little_begun (inv.again (c.in-Ok.ensures.told told) folder_told declares tells root over short named t r) inv.cycle (g.T.Tree.state c.slice.new.tree) c.slice.new.folder
    (c.slice.ensures.beyond declares tells root there short walk) (c.slice.ensures.once declares tells root there short walk)
    (c.slice.ensures.crash folder_told declares tells root there short walk (of_any c.args.start.cursor.further (part_of c.args.part.now)) t (inv.ready folder_told tells root over short None tt t r)) (inv.at folder_told r.at)
    (unheard_begun c.in-Ok.allowed.1 (c.in-Ok.ensures.allowed told).0)
    (may_named root (part_of c.args.part.now) (met_at c.loop-run.kept) c.loop-run.checkpoint named (err_holds c.slice.result _ c.in_err-made.was (c.slice.ensures.asks_no_more tells root there short walk)))

pub returns-in_err-next-clause-again : goal.returns-in_err-next-clause-again
returns-in_err-next-clause-again g c = λ told folder_told declares tells root over short named t r.
    let at = (goal.at.returns-in_err-next-clause-again g c).After-go_on_after in
    let inv = c.loop-run.invariant in
    little_last (inv.again (told_before g at told) folder_told declares tells root over short named t r) inv.cycle (g.T.Tree.state c.slice.new.tree) c.go_on_after.new.folder
    (slice_beyond g at tells root over short declares) (slice_once g at tells root over short declares) (slice_crash g at tells root over short declares folder_told t r) (inv.at folder_told r.at) (run g at told) (heard g at told)
    (slice_asked g at tells root over short named)

pub returns-in-Some-clause-again : goal.returns-in-Some-clause-again
returns-in-Some-clause-again g c = λ told folder_told declares tells root over short named t r.
    let at = (goal.at.returns-in-Some-clause-again g c).After-go_on_after in
    let inv = c.loop-run.invariant in
    little_last (inv.again (told_before g at told) folder_told declares tells root over short named t r) inv.cycle (g.T.Tree.state c.slice.new.tree) c.go_on_after.new.folder
    (slice_beyond g at tells root over short declares) (slice_once g at tells root over short declares) (slice_crash g at tells root over short declares folder_told t r) (inv.at folder_told r.at) (run g at told) (heard g at told)
    (slice_asked g at tells root over short named)
