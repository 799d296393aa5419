-- What a run brings to the report, and what it looked at.
use Rattle.std.proofs.{Common.{◌≡◌, ◌≢◌, ◌⊎◌, ⊎_elim, inl, inr, ◌+◌, ◌≤◌, ℕ, [], ◌∷◌, ◌++◌, ◌∙◌, Bool, List, length, Option, None, Some, ap, arith, append_assoc, refl, subst, sym, true}, lemmas.List.{append-nil, append_cancel_left}}
use Rattle.ocfl_tree.specs.{Place.{Text, Place, place_cmp}, Ascending.{IsAmong, IsAscending}, StorageRoot.{StorageRoot}}
use Rattle.ocfl_tree.specs.Calls.{opening}
use Rattle.ocfl_item.specs.Auditing.{FailedAt, in_listing, in_opening}
use Rattle.ocfl_tree.specs.{Store.{Did, Store, failed_openings}, declared.store.Opening.{Opening}}
use Rattle.ocfl_report.specs.Text.{text}
use Rattle.ocfl_rules.specs.{Audit.{Unread}, Parts.{Part}, Runs.{Limits}, Trail.{content_trail, unread_of}}
use Rattle.ocfl_rules.specs.Due.{hashed_among}
use Rattle.ocfl_rules.proofs.Trails.{content_behind, unread_behind}
use Rattle.ocfl_cursor.specs.Cursor.{Cursor}
use Rattle.ocfl_scrub.specs.{Call.{Call, known_call}, Keeping.{GoesOnFrom, RunsOn}, Joining.{PartRun, Ran, items_out}}
use Rattle.ocfl_item.specs.declared.fault.Fault.TheVariants as fault
use Rattle.ocfl_scrub.specs.Running.{RunEndsWithin, RunsFromWithin, begun, place_in}
use Rattle.ocfl_scrub.specs.{declared.running.RunEnd.{RunEnd}, declared.running.RunStatus.{RunStatus}}
use Rattle.ocfl_scrub.specs.declared.running.RunStatus.TheVariants as status
use Rattle.ocfl_scrub.specs.declared.stop.ReportStop.TheVariants.{Fault, Output}
use Rattle.ocfl_scrub.proofs.CycleRuns.{opens_beyond, report_at}
use Rattle.ocfl_night.specs.Ending.{place_or_pause, slice_end}
use Rattle.ocfl_night.specs.Reading.{AreBeyond, AreReadOnce, HasRead, IsReadBy, StaysTaken, content_since}
use Rattle.ocfl_night.specs.{Halting.{FailedMore, stopped_at}, Looks.{Counts, Look, failed_at, look_between, opened_since}, Steps.{IsRun}}
use Rattle.ocfl_night.proofs.RunsRead.{run_once, run_opened, run_stays, run_up}
use Rattle.ocfl_night.specs.Again.{TookOrBegan}
use Rattle.ocfl_night.proofs.Looks.{counts_by, counts_did, failed_append, failed_more, failed_none, first_within, one_listed, one_opened, since_is}
use Rattle.ocfl_report.specs.declared.further.Further.{Further}

-- ---- what a run counts

counts_ends : (call : Call) (part : Part) (from last : Option Place) (l : Limits) (spent files : ℕ) (finding : Bool) (end : RunStatus) → RunEndsWithin call part from last l spent files finding end → Counts call.before call.after
counts_ends call part from last l spent files finding status.Ended h = counts_did h.looks.audits.did
counts_ends call part from last l spent files finding status.Spent h = counts_did h.1.looks.audits.did
counts_ends call part from last l spent files finding (status.Stopped why) h = counts_did h.looks.fails.did
counts_ends call part from last l spent files finding status.Worn h = absurd h

-- it stopped at a place: a call of the store failed
stopped_ends : (call : Call) (part : Part) (from last : Option Place) (l : Limits) (spent files : ℕ) (finding : Bool) (end : RunStatus) → RunEndsWithin call part from last l spent files finding end
    → (q : Place) → end ≡ status.Stopped (Fault (fault.Store q)) → call.before.failures + 1 ≤ call.after.failures
stopped_ends call part from last l spent files finding (status.Stopped (Fault (fault.Store p))) h q is = let did = h.looks.fails.did.failures_are in omega (arith, did)
stopped_ends call part from last l spent files finding (status.Stopped (Fault fault.Memory)) h q is = absurd (cc is)
stopped_ends call part from last l spent files finding (status.Stopped Output) h q is = absurd (cc is)
stopped_ends call part from last l spent files finding status.Ended h q is = absurd (cc is)
stopped_ends call part from last l spent files finding status.Spent h q is = absurd (cc is)
stopped_ends call part from last l spent files finding status.Worn h q is = absurd h

-- the last call of it failed
failed_last : {further : Further} {root : StorageRoot} {s t : Store} {os : List Opening} {listed : List Place} {n : ℕ} {p : Place} → Did s t os listed n → FailedAt further root s t listed os p → failed_at p s + 1 ≤ failed_at p t
failed_last {s = s} {t = t} {os = os} {p = p} did (in_listing before is failed meta) =
    let more = failed_more p s t os (p ∷ []) did.openings_are failed in let one = one_listed p os [] in omega (arith, more, one)
failed_last {s = s} {t = t} {p = p} did (in_opening before given is stays) =
    let more = failed_more p s t (before ++ opening p given true ∷ []) did.failed (did.openings_are ∙ ap (λ (x : List Opening). s.openings ++ x) is) did.failed_are in let one = one_opened p before given did.failed in omega (arith, more, one)

-- and failed there
failed_ends : (call : Call) (part : Part) (from last : Option Place) (l : Limits) (spent files : ℕ) (finding : Bool) (end : RunStatus) → RunEndsWithin call part from last l spent files finding end
    → (q : Place) → end ≡ status.Stopped (Fault (fault.Store q)) → failed_at q call.before + 1 ≤ failed_at q call.after
failed_ends call part from last l spent files finding (status.Stopped (Fault (fault.Store p))) h q is =
    let same : p ≡ q = cc is in
    subst (λ (x : Place). failed_at x call.before + 1 ≤ failed_at x call.after) same (failed_last h.looks.fails.did (h.looks.fails.store p refl).1)
failed_ends call part from last l spent files finding (status.Stopped (Fault fault.Memory)) h q is = absurd (cc is)
failed_ends call part from last l spent files finding (status.Stopped Output) h q is = absurd (cc is)
failed_ends call part from last l spent files finding status.Ended h q is = absurd (cc is)
failed_ends call part from last l spent files finding status.Spent h q is = absurd (cc is)
failed_ends call part from last l spent files finding status.Worn h q is = absurd h

-- ---- what it wrote and opened

-- a run from one store to another, with all that it opened
record Reported (further : Further) (root : StorageRoot) (s t : Store) (old new : Text) (part : Part) (c : Cursor) (ran : RunEnd) : Type 0 where
  pub run : PartRun
  pub cut : Text
  pub ran_is : run.ran ≡ ran
  pub wrote : new ≡ old ++ (run.report ++ cut)
  pub uncut : ran.end ≢ status.Stopped Output → cut ≡ []
  pub made : Ran further root part c run
  pub opened_is : t.openings ≡ s.openings ++ run.opened

module _ (further : Further) (root : StorageRoot) (s t : Store) (old : Text) (part : Part) (c : Cursor) (l : Limits) where
  ran_by : (ran : RunEnd) (report cut : Text) (opened : List Opening) (new : Text) → old ++ (report ++ cut) ≡ new → t.openings ≡ s.openings ++ opened
      → (h : RunsFromWithin (known_call further root s t old new) part c l ran)
      → report ≡ text (items_out (known_call further root s t old new) part (place_in c.state) h.last l ran.spent ran.files ran.found ran.end h.run)
      → Ran further root part c (record { limits = l; report = report; opened = opened; ran = ran })
  ran_by ran report cut opened new e openings =
      subst (λ (x : Text). (h : RunsFromWithin (known_call further root s t old x) part c l ran)
      → report ≡ text (items_out (known_call further root s t old x) part (place_in c.state) h.last l ran.spent ran.files ran.found ran.end h.run) → Ran further root part c (record { limits = l; report = report; opened = opened; ran = ran })) e
      (λ h is. record { before = s; behind = t; old = old; cut = cut; runs = h; report_is = is; opened_is = openings })

  reported : (ran : RunEnd) (new : Text) → RunsFromWithin (known_call further root s t old new) part c l ran → Reported further root s t old new part c ran
  reported ran new h =
      let r = report_at further root s t old new part c l ran.cursor ran.spent ran.files ran.found ran.end h in
      let report : Text = text (items_out (known_call further root s t old new) part (place_in c.state) h.last l ran.spent ran.files ran.found ran.end h.run) in
      record {
        run = record { limits = l; report = report; opened = r.opened; ran = ran };
        cut = r.cut;
        ran_is = refl;
        wrote = r.wrote;
        uncut = r.uncut;
        made = ran_by ran report r.cut r.opened new (sym r.wrote) r.opened_is h refl;
        opened_is = r.opened_is;
      }

-- ---- what it looked at

-- a run from one store to another, with all that it looked at there
record Looked (further : Further) (root : StorageRoot) (s t : Store) (old new : Text) (part : Part) (c : Cursor) (ran : RunEnd) : Type 0 where
  pub run : PartRun
  pub cut : Text
  pub ran_is : run.ran ≡ ran
  pub wrote : new ≡ old ++ (run.report ++ cut)
  pub uncut : ran.end ≢ status.Stopped Output → cut ≡ []
  pub made : Ran further root part c run
  pub unread : unread_of further root (opened_since s t) ≡ unread_of further root run.opened
  pub content : content_since further root s t ≡ content_trail further root run.opened
  pub counts : Counts s t
  pub stopped : (q : Place) → ran.end ≡ status.Stopped (Fault (fault.Store q)) → s.failures + 1 ≤ t.failures
  pub failed : (q : Place) → ran.end ≡ status.Stopped (Fault (fault.Store q)) → failed_at q s + 1 ≤ failed_at q t

module _ (further : Further) (root : StorageRoot) (s t : Store) (old new : Text) (part : Part) (c : Cursor) (l : Limits) (ran : RunEnd) where
  -- it began a walk
  looked_first : RunsFromWithin (known_call further root s t old new) part c l ran → Looked further root s t old new part c ran
  looked_first h =
      let r = reported further root s t old part c l ran new h in
      record {
        run = r.run;
        cut = r.cut;
        ran_is = r.ran_is;
        wrote = r.wrote;
        uncut = r.uncut;
        made = r.made;
        unread = ap (unread_of further root) (since_is s t r.run.opened r.opened_is);
        content = ap (content_trail further root) (since_is s t r.run.opened r.opened_is);
        stopped = stopped_ends (known_call further root s t old new) part (place_in c.state) h.last l ran.spent ran.files ran.found ran.end h.run;
        failed = failed_ends (known_call further root s t old new) part (place_in c.state) h.last l ran.spent ran.files ran.found ran.end h.run;
        counts = counts_ends (known_call further root s t old new) part (place_in c.state) h.last l ran.spent ran.files ran.found ran.end h.run;
      }

  -- it went on with one
  module _ (p : Place) (h : GoesOnFrom (known_call further root s t old new) part p c l ran) where
    abbrev added : List Opening
    added = h.alike.added.openings

    abbrev down : List Opening
    down = h.down.trail

    abbrev way : List Opening
    way = h.way.trail

    here : t.openings ≡ s.openings ++ added
    here = ap (λ (x : Store). x.openings) h.alike.here

    there : h.behind.openings ≡ h.before.openings ++ (down ++ (way ++ added))
    there =
        ap (λ (x : Store). x.openings) h.alike.there
        ∙ ap (λ (os : List Opening). os ++ added) (h.way.audits.did.openings_are ∙ ap (λ (os : List Opening). os ++ way) h.down.audits.did.openings_are)
        ∙ append_assoc (h.before.openings ++ down) way added
        ∙ append_assoc h.before.openings down (way ++ added)

    none_down : unread_of further root (down ++ (way ++ added)) ≡ unread_of further root added
    unfolding hashed_among
    none_down = unread_behind further root down (way ++ added) h.down.audits.opened ∙ unread_behind further root way added h.way.audits.opened

    meta_down : content_trail further root (down ++ (way ++ added)) ≡ content_trail further root added
    unfolding hashed_among
    meta_down = content_behind further root down (way ++ added) h.down.audits.opened ∙ content_behind further root way added h.way.audits.opened

    no_failure : (trail : List Opening) → unread_of further root trail ≡ unread_of further root [] → length (unread_of further root trail) ≡ 0
    no_failure trail is = ap length is

    failed : failed_openings added ≤ h.alike.added.failures
    unfolding hashed_among
    failed =
        let counts = counts_ends (known_call further root h.before h.behind old new) part (place_in c.state) h.runs.last l ran.spent ran.files ran.found ran.end h.runs.run in
        let since : failed_openings (opened_since h.before h.behind) ≡ failed_openings down + (failed_openings way + failed_openings added) =
        ap failed_openings (since_is h.before h.behind (down ++ (way ++ added)) there) ∙ failed_append down (way ++ added) ∙ ap (λ (n : ℕ). failed_openings down + n) (failed_append way added) in
        let one : length (unread_of further root down) ≡ 0 = no_failure down (sym (ap (unread_of further root) (append-nil down)) ∙ unread_behind further root down [] h.down.audits.opened) in
        let two : length (unread_of further root way) ≡ 0 = no_failure way (sym (ap (unread_of further root) (append-nil way)) ∙ unread_behind further root way [] h.way.audits.opened) in
        omega (arith, counts.failures, since, one, two, h.down.audits.did.failures_are, h.way.audits.did.failures_are, ap (λ (x : Store). x.failures) h.alike.there)

    stopped_on : (q : Place) → ran.end ≡ status.Stopped (Fault (fault.Store q)) → s.failures + 1 ≤ t.failures
    unfolding hashed_among
    stopped_on q is =
        let more : h.before.failures + 1 ≤ h.behind.failures = stopped_ends (known_call further root h.before h.behind old new) part (place_in c.state) h.runs.last l ran.spent ran.files ran.found ran.end h.runs.run q is in
        let one : length (unread_of further root down) ≡ 0 = no_failure down (sym (ap (unread_of further root) (append-nil down)) ∙ unread_behind further root down [] h.down.audits.opened) in
        let two : length (unread_of further root way) ≡ 0 = no_failure way (sym (ap (unread_of further root) (append-nil way)) ∙ unread_behind further root way [] h.way.audits.opened) in
        omega (arith, more, one, two, h.down.audits.did.failures_are, h.way.audits.did.failures_are, ap (λ (x : Store). x.failures) h.alike.there, ap (λ (x : Store). x.failures) h.alike.here)

    listed : t.failed_listings ≡ s.failed_listings ++ h.alike.added.failed
    listed = ap (λ (x : Store). x.failed_listings) h.alike.here

    -- nothing failed on the way
    none_failed_down : (q : Place) → failed_at q h.begun ≤ failed_at q h.before
    unfolding hashed_among
    none_failed_down q = failed_none q h.down.audits.did (no_failure down (sym (ap (unread_of further root) (append-nil down)) ∙ unread_behind further root down [] h.down.audits.opened))

    none_failed_on : (q : Place) → failed_at q h.there ≤ failed_at q h.begun
    unfolding hashed_among
    none_failed_on q = failed_none q h.way.audits.did (no_failure way (sym (ap (unread_of further root) (append-nil way)) ∙ unread_behind further root way [] h.way.audits.opened))

    failed_on : (q : Place) → ran.end ≡ status.Stopped (Fault (fault.Store q)) → failed_at q s + 1 ≤ failed_at q t
    failed_on q is =
        let more : failed_at q h.before + 1 ≤ failed_at q h.behind = failed_ends (known_call further root h.before h.behind old new) part (place_in c.state) h.runs.last l ran.spent ran.files ran.found ran.end h.runs.run q is in
        let down_way = none_failed_down q in
        let on = none_failed_on q in
        let there_on = failed_more q h.there h.behind added h.alike.added.failed (ap (λ (x : Store). x.openings) h.alike.there) (ap (λ (x : Store). x.failed_listings) h.alike.there) in
        let now = failed_more q s t added h.alike.added.failed here listed in
        omega (arith, more, down_way, on, there_on, now)

    looked_on : Looked further root s t old new part c ran
    looked_on =
        let r = reported further root h.before h.behind old part c l ran new h.runs in
        let opened : r.run.opened ≡ down ++ (way ++ added) = append_cancel_left h.before.openings r.run.opened (down ++ (way ++ added)) (sym r.opened_is ∙ there) in
        record {
          run = r.run;
          cut = r.cut;
          ran_is = r.ran_is;
          wrote = r.wrote;
          uncut = r.uncut;
          made = r.made;
          unread = ap (unread_of further root) (since_is s t added here) ∙ sym (ap (unread_of further root) opened ∙ none_down);
          content = ap (content_trail further root) (since_is s t added here) ∙ sym (ap (content_trail further root) opened ∙ meta_down);
          stopped = stopped_on;
          failed = failed_on;
          counts = counts_by s t added h.alike.added.failed here listed (omega (arith, failed, ap (λ (x : Store). x.failures) h.alike.here));
        }

  looked_by : (met : Option Place) → RunsOn (known_call further root s t old new) part met c l ran → Looked further root s t old new part c ran
  looked_by None h = looked_first h
  looked_by (Some p) h = looked_on p h

-- ---- what it brings

module _ (root : StorageRoot) (s t : Store) (old new : Text) (part : Part) (c : Cursor) (l : Limits) (ran : RunEnd) (met : Option Place) (h : RunsOn (known_call c.further root s t old new) part met c l ran) where
  pub run_counts : Counts s t
  run_counts = (looked_by c.further root s t old new part c l ran met h).counts

  -- and then the root was looked at
  pub run_of : {u : Store} → Counts t u → old ≡ [] → ran.end ≢ status.Stopped Output → IsRun part c (look_between c.further root s u) new ran
  run_of {u} after empty whole =
      let r = looked_by c.further root s t old new part c l ran met h in
      let text : new ≡ r.run.report = r.wrote ∙ ap (λ (x : Text). x ++ (r.run.report ++ r.cut)) empty ∙ ap (λ (x : Text). r.run.report ++ x) (r.uncut whole) ∙ append-nil r.run.report in
      record {
        run = r.run;
        ran_is = r.ran_is;
        made = r.made;
        lines_are = text;
        looked = λ e is. (first_within r.counts after c.further root).unread e (subst (λ (x : Unread). IsAmong x e) (sym r.unread) is);
      }

  -- the content files that it opened come after its cursor
  pub run_beyond : AreBeyond (begun c).state (content_since c.further root s t)
  run_beyond =
      let r = looked_by c.further root s t old new part c l ran met h in
      record { each = λ p i. opens_beyond c.further root part c r.run r.made p (subst (λ (ps : List Place). IsAmong ps p) r.content i) }

  -- and each is read once, unless it stopped
  pub run_read : ran.end ≢ status.Worn → ran.end ≢ status.Stopped Output → HasRead s t (begun c).state ran.cursor.state (place_or_pause (slice_end ran.end)) (content_since c.further root s t)
  run_read works whole =
      let r = looked_by c.further root s t old new part c l ran met h in
      let cursor : r.run.ran.cursor ≡ ran.cursor = ap (λ (x : RunEnd). x.cursor) r.ran_is in
      let once : (ran.end ≡ status.Ended) ⊎ (ran.end ≡ status.Spent) → AreReadOnce ran.cursor.state (content_since c.further root s t) = λ how.
      subst (AreReadOnce ran.cursor.state) (sym r.content) (subst (λ (x : Cursor). AreReadOnce x.state (content_trail c.further root r.run.opened)) cursor
      (run_once c.further root part c r.run r.made (⊎_elim (λ e. inl (ap (λ (x : RunEnd). x.end) r.ran_is ∙ e)) (λ e. inr (ap (λ (x : RunEnd). x.end) r.ran_is ∙ e)) how))) in
      record {
        stays = subst (λ (x : Cursor). StaysTaken (begun c).state x.state) cursor (run_stays c.further root part c r.run r.made);
        once = λ same. by (λ q is. let more = r.stopped q is in omega (arith, more, same)) once ran.end refl;
      }
    where
      by : ((q : Place) → ran.end ≡ status.Stopped (Fault (fault.Store q)) → ⊥) → ((ran.end ≡ status.Ended) ⊎ (ran.end ≡ status.Spent) → AreReadOnce ran.cursor.state (content_since c.further root s t))
          → (end : RunStatus) → ran.end ≡ end → IsReadBy (place_or_pause (slice_end end)) ran.cursor.state (content_since c.further root s t)
      by stops once status.Ended is = once (inl is)
      by stops once status.Spent is = once (inr is)
      by stops once status.Worn is = absurd (works is)
      by stops once (status.Stopped Output) is = absurd (whole is)
      by stops once (status.Stopped (Fault (fault.Store q))) is = stops q is
      by stops once (status.Stopped (Fault fault.Memory)) is = tt

  -- it stopped where the store failed
  pub run_failed : FailedMore s t (stopped_at (slice_end ran.end))
  run_failed = by (looked_by c.further root s t old new part c l ran met h) ran.end refl
    where
      by : Looked c.further root s t old new part c ran → (end : RunStatus) → ran.end ≡ end → FailedMore s t (stopped_at (slice_end end))
      by r status.Ended is = tt
      by r status.Spent is = tt
      by r status.Worn is = tt
      by r (status.Stopped Output) is = tt
      by r (status.Stopped (Fault fault.Memory)) is = tt
      by r (status.Stopped (Fault (fault.Store q))) is = r.failed q is

  -- each content file once, in order
  pub run_ascends : IsAscending place_cmp (content_since c.further root s t)
  run_ascends = let r = looked_by c.further root s t old new part c l ran met h in subst (IsAscending place_cmp) (sym r.content) (run_up c.further root part c r.run r.made)

  -- of which it took all, but one if it stopped
  pub run_took : ran.end ≢ status.Stopped Output → TookOrBegan ran.cursor.state (slice_end ran.end) (content_since c.further root s t)
  run_took whole =
      let r = looked_by c.further root s t old new part c l ran met h in
      subst (TookOrBegan ran.cursor.state (slice_end ran.end)) (sym r.content)
      (subst (λ (x : RunEnd). TookOrBegan x.cursor.state (slice_end x.end) (content_trail c.further root r.run.opened)) r.ran_is (run_opened c.further root part c r.run r.made (λ e. whole (sym (ap (λ (x : RunEnd). x.end) r.ran_is) ∙ e))))

-- of a part, a cursor and lines that are known by two names
pub run_at : {look : Look} {rest part : Part} {made c : Cursor} {ran : RunEnd} {new lines : Text} → rest ≡ part → made ≡ c → new ≡ lines → IsRun rest made look new ran → IsRun part c look lines ran
run_at {look} {rest} {part} {made} {c} {ran} {new} there same text run =
    subst (λ (l : Text). IsRun part c look l ran) text (subst (λ (x : Cursor). IsRun part x look new ran) same (subst (λ (y : Part). IsRun y made look new ran) there run))
