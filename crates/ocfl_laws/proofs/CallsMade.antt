-- Calls that hand the text of a part's cursor from one to the next are runs of one cycle of that part,
-- whatever failed in them.
use Rattle.std.proofs.Common.{◌≡◌, ◌≢◌, inl, inr, ℕ, ◌+◌, ◌≤◌, ◌/◌, List, [], ◌∷◌, ◌++◌, refl, sym, ◌∙◌, ap, subst, Some, None, Option, All, map, true, Bool, Vec}
use Rattle.std.specs.{Prelude.{◌⊎◌, IsNone, IsSome, flat_map, option_map}, List.{AllByRecursion}}
use Rattle.std.specs.declared.alloc.Global.{Global}
use Rattle.ocfl_tree.specs.{Place.{Text}, StorageRoot.{StorageRoot}, Store.{Store}}
use Rattle.ocfl_tree.specs.declared.store.Opening.{Opening}
use Rattle.ocfl_report.specs.Text.{text}
use Rattle.ocfl_rules.specs.{Audit.{Unread, audit, total_cost}, Parts.{within}}
use Rattle.ocfl_rules.specs.Runs.{total_files, IsAtLeast}
use Rattle.ocfl_cursor.specs.{Cursor.{Cursor, IsCursor, ended}, Part.{IsPartText, part_text}}
use Rattle.ocfl_cursor.specs.declared.ends.PartEnds.{PartEnds}
use Rattle.ocfl_cursor.specs.declared.limits.Limits.{Limits as MadeLimits}
use Rattle.ocfl_cursor.proofs.PartTexts.{part_text_determines}
use Rattle.ocfl_deed.specs.declared.deed.Deed.TheVariants as deed
use Rattle.ocfl_scrub.specs.declared.stop.ReportStop.TheVariants.{Output}
use Rattle.ocfl_scope.specs.Numbered.{AreAllFrom, part_between}
use Rattle.ocfl_scope.specs.declared.scope.Scope.TheVariants as scope
use Rattle.ocfl_scope.proofs.NumberedLaws.{all_parts}
use Rattle.ocfl_scrub.specs.Call.{known_call}
use Rattle.ocfl_laws.specs.Handing.{SaysMade, BeginsCycle, bytes_stored, handed_by, MadeCall, run_in, HasRun, MadeFrom, AreMadeCalls, SayEnded, stored_last, runs_made, MadeCycle, IsMadeCycle}
use Rattle.ocfl_scrub.specs.Joining.{AreOneCycle, IsWholeCycle, PartCycle, Ran, cursor_after, items_out, left_by, reports_of, unread_together, unstopped}
use Rattle.ocfl_scrub.specs.{Noting.{IsRunNote, IsStoredNote}, Performing.{RunMade, RunUnmade}}
use Rattle.ocfl_scrub.specs.Running.{limits_of, place_in, state_after}
use Rattle.ocfl_scrub.specs.Scoping.{BeginsPartWith, IsPartFirst, PartRunPerformed, PerformsIn, WhyNoPartRun}
use Rattle.ocfl_scrub.specs.{declared.note.Note.{Note}, declared.performing.Performed.{Performed}}
use Rattle.ocfl_scrub.specs.declared.running.RunEnd.{RunEnd}
use Rattle.ocfl_scrub.specs.declared.running.RunStatus.{RunStatus}
use Rattle.ocfl_scrub.specs.declared.note.Note.TheVariants as note
use Rattle.ocfl_scrub.specs.declared.running.RunStatus.TheVariants as run
use Rattle.ocfl_laws.proofs.CallsJoined.{fresh, ran_says}
use Rattle.ocfl_report.specs.declared.further.Further.{Further}
use Rattle.ocfl_scrub.proofs.CycleRuns.{parts_reports, report_at, reports_and_rest, reports_whole, runs_few}

-- ---- what is handed back, and what is said

record Back (e : PartEnds) (c : Cursor) (spent : ℕ) (finding : Bool) (how : RunStatus) (status : ℕ) (n : Note) (stored : Option (Vec ℕ Global)) : Type 0 where
  handed : Text
  handed_is : option_map (λ bytes. bytes.items) stored ≡ Some handed
  text_is : handed ≡ part_text e c
  says : IsRunNote c spent finding how status n

back_of : (e : PartEnds) (c : Cursor) (spent : ℕ) (finding : Bool) (how : RunStatus) (status : ℕ) (n : Note) (stored : Option (Vec ℕ Global))
    → IsSome stored → IsStoredNote (part_text e) c spent finding how status n stored → Back e c spent finding how status n stored
back_of e c spent finding how status n None some h = absurd cc
back_of e c spent finding how status n (Some bytes) some h = record { handed = bytes.items; handed_is = refl; text_is = h.0; says = h.1 }

not_both : (stored : Option (Vec ℕ Global)) → IsSome stored → IsNone stored → ⊥
not_both None some none = cc
not_both (Some bytes) some none = cc

-- a run that ended says that no item is left
ended_says : (c : Cursor) (spent : ℕ) (finding : Bool) (how : RunStatus) (status : ℕ) (n : Note) → IsRunNote c spent finding how status n → how ≡ run.Ended → SaysMade true n
ended_says c spent finding how status n h e =
    let k : IsRunNote c spent finding run.Ended status n = subst (λ x. IsRunNote c spent finding x status n) e h in
    subst (SaysMade true) (sym k.1) refl

-- one whose output failed says so
output_says : (c : Cursor) (spent : ℕ) (finding : Bool) (how : RunStatus) (status : ℕ) (n : Note) → IsRunNote c spent finding how status n → how ≡ run.Stopped Output → n ≡ note.OutputFailed
output_says c spent finding how status n h e = (subst (λ x. IsRunNote c spent finding x status n) e h).1

-- a part's cycle begins with what is stored, if each cursor that is read there is at its first item
begins_if : (further : Further) (e : PartEnds) (stored : Option Text) → ((c : Cursor) → IsPartFirst further e (bytes_stored stored) c → place_in c.state ≡ None) → BeginsCycle e stored
begins_if further e None h = tt
begins_if further e (Some bytes) h = h

-- ---- a call that handed a cursor back has a run

-- a call and what its run answered, of what a call said and wrote
abbrev pub IsMadeOfCall : Further → StorageRoot → Store → Store → PartEnds → Option Text → MadeLimits → Text → Text → Performed → MadeCall → Type 0
IsMadeOfCall further root s t e stored limits old new said c =
    (c.call.limits ≡ limits) × ((c.call.said ≡ said) × ((t.openings ≡ s.openings ++ c.call.opened)
    × ((cut : Text) × ((new ≡ old ++ (c.call.report ++ cut)) × ((said.note ≢ note.OutputFailed → cut ≡ []) × MadeFrom further root e stored c)))))

module _ (further : Further) (root : StorageRoot) (s t : Store) (e : PartEnds) (stored : Option Text) (limits : MadeLimits) (old : Text) (said : Performed) where
  abbrev call_made : Text → List Opening → RunEnd → MadeCall
  call_made report opened ran = record { call = record { limits = limits; report = report; opened = opened; said = said }; ran = ran }

  made_from : (report cut : Text) (opened : List Opening) (ran : RunEnd) (new : Text) → old ++ (report ++ cut) ≡ new → IsSome said.cursor → t.openings ≡ s.openings ++ opened
      → (p : PartRunPerformed (known_call further root s t old new) e (bytes_stored stored) (limits_of limits) said.status said.note said.cursor)
      → HasRun (known_call further root s t old new) e (bytes_stored stored) (limits_of limits) said.status said.note said.cursor p ran report
      → MadeFrom further root e stored (call_made report opened ran)
  made_from report cut opened ran new wrote handed openings =
      subst (λ x. (p : PartRunPerformed (known_call further root s t old x) e (bytes_stored stored) (limits_of limits) said.status said.note said.cursor)
      → HasRun (known_call further root s t old x) e (bytes_stored stored) (limits_of limits) said.status said.note said.cursor p ran report
      → MadeFrom further root e stored (call_made report opened ran)) wrote
      (λ p has. record { before = s; behind = t; old = old; cut = cut; performs = p; has_run = has; handed = handed; opened_is = openings })

  pub call_has_run : (new : Text) → IsSome said.cursor
      → PerformsIn (known_call further root s t old new) (deed.Run further limits) (scope.Part e) (bytes_stored stored) said.status said.note said.cursor
      → (c : MadeCall) × IsMadeOfCall further root s t e stored limits old new said c
  call_has_run new handed performs = by performs
    where
      by : RunMade (BeginsPartWith further e (bytes_stored stored)) (part_text e) (known_call further root s t old new) (part_between e) (limits_of limits) said.status said.note said.cursor
          ⊎ RunUnmade (WhyNoPartRun further e (bytes_stored stored) said.status said.note) (known_call further root s t old new) said.cursor
          → (c : MadeCall) × IsMadeOfCall further root s t e stored limits old new said c
      by (inl m) =
          let ran : RunEnd = m.runs.ran in
          let r = report_at further root s t old new (part_between e) m.from (limits_of limits) ran.cursor ran.spent ran.files ran.found ran.end m.runs.runs in
          let back = back_of e ran.cursor ran.spent ran.found ran.end said.status said.note said.cursor handed m.runs.says in
          let report : Text = text (items_out (known_call further root s t old new) (part_between e) (place_in m.from.state) m.runs.runs.last (limits_of limits) ran.spent ran.files ran.found ran.end m.runs.runs.run) in
          let no_output : said.note ≢ note.OutputFailed → ran.end ≢ run.Stopped Output = λ f x. f (output_says ran.cursor ran.spent ran.found ran.end said.status said.note back.says x) in (
            call_made report r.opened ran,
            (
              refl,
              (refl, (r.opened_is, (r.cut, (r.wrote, ((λ f. r.uncut (no_output f)), made_from report r.cut r.opened ran new (sym r.wrote) handed r.opened_is (inl m) (refl, refl)))))),
            ),
          )
      by (inr u) = absurd (not_both said.cursor handed u.unkept)

-- ---- such calls are runs

module _ (further : Further) (root : StorageRoot) (e : PartEnds) where
  -- the run of a call, and what it handed back
  record IsRun (stored : Option Text) (c : MadeCall) : Type 0 where
    from : Cursor
    begins : BeginsPartWith further e (bytes_stored stored) from
    ran : Ran further root (part_between e) from (run_in c)
    keeps : IsCursor c.ran.cursor
    back : Back e c.ran.cursor c.ran.spent c.ran.found c.ran.end c.call.said.status c.call.said.note c.call.said.cursor

  is_run : (stored : Option Text) (c : MadeCall) → MadeFrom further root e stored c → IsRun stored c
  is_run stored c h = by h.performs h.has_run
    where
      by : (p : RunMade (BeginsPartWith further e (bytes_stored stored)) (part_text e) (known_call further root h.before h.behind h.old (h.old ++ (c.call.report ++ h.cut))) (part_between e) (limits_of c.call.limits) c.call.said.status c.call.said.note c.call.said.cursor
          ⊎ RunUnmade (WhyNoPartRun further e (bytes_stored stored) c.call.said.status c.call.said.note) (known_call further root h.before h.behind h.old (h.old ++ (c.call.report ++ h.cut))) c.call.said.cursor)
          → HasRun (known_call further root h.before h.behind h.old (h.old ++ (c.call.report ++ h.cut))) e (bytes_stored stored) (limits_of c.call.limits) c.call.said.status c.call.said.note c.call.said.cursor p c.ran c.call.report
          → IsRun stored c
      by (inl m) has = subst (λ x. IsRun stored (record { call = c.call; ran = x })) has.0 (record {
        from = m.from;
        begins = m.begins;
        ran = record { before = h.before; behind = h.behind; old = h.old; cut = h.cut; runs = m.runs.runs; report_is = has.1; opened_is = h.opened_is };
        keeps = m.runs.keeps;
        back = back_of e m.runs.ran.cursor m.runs.ran.spent m.runs.ran.found m.runs.ran.end c.call.said.status c.call.said.note c.call.said.cursor h.handed m.runs.says;
      })
      by (inr u) has = absurd has

  -- what reads the bytes that it handed back begins with the cursor that it answered
  read_back : (stored : Option Text) (c : MadeCall) → IsRun stored c → (d : Cursor) → IsPartFirst further e (bytes_stored (handed_by c.call)) d → d ≡ c.ran.cursor
  read_back stored c k d begins =
      let there : IsPartText e k.back.handed d = subst (λ x. IsPartFirst further e (bytes_stored x) d) k.back.handed_is begins in
      (part_text_determines k.back.handed e e d c.ran.cursor there (record { ends = there.ends; keeps = k.keeps; is = k.back.text_is })).1

  not_ended : (stored : Option Text) (c : MadeCall) → IsRun stored c → (SaysMade true c.call.said.note → ⊥) → c.ran.end ≢ run.Ended
  not_ended stored c k more end = more (ended_says c.ran.cursor c.ran.spent c.ran.found c.ran.end c.call.said.status c.call.said.note k.back.says end)

  is_ended : (stored : Option Text) (c : MadeCall) → IsRun stored c → SaysMade true c.call.said.note → c.ran.cursor.state ≡ ended
  is_ended stored c k says =
      let end : c.ran.end ≡ run.Ended = ran_says true c.ran.cursor c.ran.spent c.ran.found c.ran.end c.call.said.status c.call.said.note k.back.says says in
      ap (λ x. x.state) k.ran.runs.cursor_is ∙ ap (λ x. state_after x k.ran.runs.last) end

  record AreRuns (stored : Option Text) (calls : List MadeCall) : Type 0 where
    from : Cursor
    begins : BeginsPartWith further e (bytes_stored stored) from
    are : AreOneCycle further root (part_between e) from (runs_made calls)
    last_is : (last : Cursor) → IsPartFirst further e (bytes_stored (stored_last stored calls)) last → last ≡ cursor_after from (runs_made calls)
    ends : SayEnded calls → (cursor_after from (runs_made calls)).state ≡ ended

  are_runs : (stored : Option Text) (calls : List MadeCall) → AreMadeCalls further root e stored calls → AreRuns stored calls
  are_runs stored [] h = absurd h
  are_runs stored (c ∷ []) h =
      let k = is_run stored c h in
      record { from = k.from; begins = k.begins; are = k.ran; last_is = read_back stored c k; ends = is_ended stored c k }
  are_runs stored (c ∷ d ∷ calls) h =
      let k = is_run stored c h.0 in
      let later = are_runs (handed_by c.call) (d ∷ calls) h.1.1 in
      let same : later.from ≡ c.ran.cursor = read_back stored c k later.from later.begins.1 in
      record {
        from = k.from;
        begins = k.begins;
        are = (k.ran, (not_ended stored c k h.1.0, subst (λ x. AreOneCycle further root (part_between e) x (runs_made (d ∷ calls))) same later.are));
        last_is = later.last_is;
        ends = later.ends;
      }

  pub calls_next : (stored : Option Text) (calls : List MadeCall) → AreMadeCalls further root e stored calls → SayEnded calls → BeginsCycle e (stored_last stored calls)
  calls_next stored calls h says =
      let m = are_runs stored calls h in
      begins_if further e (stored_last stored calls) (λ c there. ap (λ x. place_in x.state) (m.last_is c there) ∙ ap place_in (m.ends says))

  module _ (stored : Option Text) (calls : List MadeCall) (begins : BeginsCycle e stored) (h : AreMadeCalls further root e stored calls) where
    abbrev unread_all : Unread
    unread_all = unread_together further root (runs_made calls)

    made : AreRuns stored calls
    made = are_runs stored calls h

    anew : place_in made.from.state ≡ None
    anew = fresh further root e stored made.from begins made.begins.1

    pub made_reports : (last : Cursor) → IsPartFirst further e (bytes_stored (stored_last stored calls)) last
        → reports_of (runs_made calls) ++ text (left_by last.state (within (part_between e) (audit further root unread_all))) ≡ text (within (part_between e) (audit further root unread_all))
    made_reports last there =
        ap (λ x. reports_of (runs_made calls) ++ text (left_by x.state (within (part_between e) (audit further root unread_all)))) (made.last_is last there)
        ∙ reports_and_rest further root (part_between e) made.from (runs_made calls) anew made.are

    pub made_whole : SayEnded calls → reports_of (runs_made calls) ≡ text (within (part_between e) (audit further root unread_all))
    made_whole says = reports_whole further root (part_between e) made.from (runs_made calls) anew made.are (made.ends says)

    pub made_few : (b n : ℕ) → 1 ≤ b → 1 ≤ n → All (IsAtLeast b n) (map (λ r. r.limits) (runs_made calls))
        → unstopped (runs_made calls) ≤ total_cost (within (part_between e) (audit further root unread_all)) / b + total_files (within (part_between e) (audit further root unread_all)) / n + 1
    made_few = runs_few further root (part_between e) made.from (runs_made calls) anew made.are

-- ---- all parts

module _ (further : Further) (root : StorageRoot) where
  -- the cycles of parts that calls made
  record Cycles (ds : List MadeCycle) : Type 0 where
    cycles : List PartCycle
    parts : map (λ d. d.part) cycles ≡ map part_between (map (λ d. d.ends) ds)
    are : AllByRecursion (IsWholeCycle further root) cycles
    reports : flat_map (λ d. reports_of d.runs) cycles ≡ flat_map (λ d. reports_of (runs_made d.calls)) ds
    unread : flat_map (λ d. unread_together further root d.runs) cycles ≡ flat_map (λ d. unread_together further root (runs_made d.calls)) ds

  cycles_of : (ds : List MadeCycle) → AllByRecursion (IsMadeCycle further root) ds → Cycles ds
  cycles_of [] h = record { cycles = []; parts = refl; are = tt; reports = refl; unread = refl }
  cycles_of (d ∷ ds) h =
      let m = are_runs further root d.ends d.stored d.calls h.0.are in
      let later = cycles_of ds h.1 in
      record {
        cycles = record { part = part_between d.ends; first = m.from; runs = runs_made d.calls } ∷ later.cycles;
        parts = ap (λ x. part_between d.ends ∷ x) later.parts;
        are = (record { starts = fresh further root d.ends d.stored m.from h.0.starts m.begins.1; are = m.are; ends = m.ends h.0.says }, later.are);
        reports = ap (λ x. reports_of (runs_made d.calls) ++ x) later.reports;
        unread = ap (λ x. unread_together further root (runs_made d.calls) ++ x) later.unread;
      }

  pub made_parts : (b : Text) (ds : List MadeCycle) → AreAllFrom b 1 (map (λ d. d.ends) ds) → AllByRecursion (IsMadeCycle further root) ds
      → flat_map (λ d. reports_of (runs_made d.calls)) ds ≡ text (audit further root (flat_map (λ d. unread_together further root (runs_made d.calls)) ds))
  made_parts b ds all done =
      let there = all_parts b (map (λ d. d.ends) ds) all in
      let m = cycles_of ds done in
      sym m.reports ∙ parts_reports further root there.0 m.cycles there.1.0.separators.ascend (m.parts ∙ there.1.1) m.are ∙ ap (λ u. text (audit further root u)) m.unread
