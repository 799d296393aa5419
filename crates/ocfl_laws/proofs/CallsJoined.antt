-- Calls that hand the text of a part's cursor from one to the next are runs of that part.
use Rattle.std.proofs.Common.{◌≡◌, ℕ, suc, ◌+◌, ◌≤◌, ◌/◌, List, [], ◌∷◌, ◌++◌, refl, sym, ◌∙◌, ap, subst, Some, None, Option, All, map, length, true, false, Bool, Vec, inl, inr, arith}
use Rattle.std.specs.{Prelude.{◌⊎◌, flat_map, option_map}, List.{AllByRecursion}}
use Rattle.std.specs.declared.alloc.Global.{Global}
use Rattle.ocfl_tree.specs.{Place.{Text}, StorageRoot.{StorageRoot}, Store.{Store}}
use Rattle.ocfl_report.specs.Text.{text}
use Rattle.ocfl_rules.specs.{Audit.{audit, total_cost}, Due.{item_places, hashed_among}}
use Rattle.ocfl_rules.specs.{Parts.{within, places_within}, Runs.{total_files, IsAtLeast}}
use Rattle.ocfl_rules.specs.Trail.{content_trail}
use Rattle.ocfl_rules.proofs.PartLaws.{texts_join, hashed_join}
use Rattle.ocfl_cursor.specs.{Cursor.{Cursor, IsCursor}, Part.{IsPartText, part_text}}
use Rattle.ocfl_cursor.specs.declared.ends.PartEnds.{PartEnds}
use Rattle.ocfl_cursor.specs.declared.part_reading.PartCursorStop.{PartCursorStop}
use Rattle.ocfl_cursor.specs.declared.refused.PartRefused.{PartRefused}
use Rattle.ocfl_cursor.specs.declared.part_reading.PartCursorStop.TheVariants as stop
use Rattle.ocfl_cursor.specs.declared.refused.PartRefused.TheVariants as part
use Rattle.ocfl_cursor.specs.declared.refused.Refused.TheVariants as refused
use Rattle.ocfl_cursor.proofs.PartTexts.{part_text_determines}
use Rattle.ocfl_scrub.specs.declared.stop.ReportStop.{ReportStop}
use Rattle.ocfl_item.specs.declared.fault.Fault.TheVariants as fault
use Rattle.ocfl_scrub.specs.declared.stop.ReportStop.TheVariants as halt
use Rattle.ocfl_scope.specs.Numbered.{AreAllFrom, part_between}
use Rattle.ocfl_scope.proofs.NumberedLaws.{all_parts}
use Rattle.ocfl_scrub.specs.Call.{known_call}
use Rattle.ocfl_laws.specs.Handing.{PartCall, CalledWell, SaysMade, AreCalls, BeginsCycle, CalledCycle, IsCalledCycle, bytes_stored, content_opened, handed_by, limits_given, stored_after, written_by}
use Rattle.ocfl_scrub.specs.Joining.{PartRun, reports_of}
use Rattle.ocfl_scrub.specs.Noting.{IsPartRefusedNote, IsRunNote, IsStopNote, IsStoredNote}
use Rattle.ocfl_scrub.specs.Performing.{RunMade, RunUnmade}
use Rattle.ocfl_scrub.specs.Running.{limits_of, place_in, state_after}
use Rattle.ocfl_scrub.specs.Scoping.{BeginsPartWith, IsPartFirst, IsPartUnreadNote, WhyNoPartRun}
use Rattle.ocfl_scrub.specs.declared.note.Note.{Note}
use Rattle.ocfl_scrub.specs.declared.running.RunEnd.{RunEnd}
use Rattle.ocfl_scrub.specs.declared.running.RunStatus.{RunStatus}
use Rattle.ocfl_scrub.specs.declared.note.Note.TheVariants as note
use Rattle.ocfl_scrub.specs.declared.running.RunStatus.TheVariants as run
use Rattle.ocfl_laws.specs.Joined.{AreRuns, RanWell, opened_by}
use Rattle.ocfl_laws.proofs.JoinLaws.{part_opened, part_reports, part_runs}
use Rattle.ocfl_report.specs.declared.further.Further.{Further}

-- how a run ended that left items, or none
abbrev pub end_by : Bool → RunStatus
end_by true = run.Ended
end_by false = run.Spent

-- ---- what is said of a run that was not made

unmade_says : {A : Type 0} (whole : Bool) (n m : Note) → n ≡ m → (SaysMade whole m → ⊥) → SaysMade whole n → A
unmade_says whole n m e unmade says = absurd (unmade (subst (SaysMade whole) e says))

stop_says : (whole : Bool) (why : ReportStop) (n : Note) → IsStopNote why n → SaysMade whole n → ⊥
stop_says whole (halt.Fault (fault.Store p)) n h says = unmade_says whole n (note.StoppedAt p) h (λ x. x) says
stop_says whole (halt.Fault fault.Memory) n h says = unmade_says whole n note.OutOfMemory h (λ x. x) says
stop_says whole halt.Output n h says = unmade_says whole n note.OutputFailed h (λ x. x) says

refused_says : (whole : Bool) (why : PartRefused) (status : ℕ) (n : Note) → IsPartRefusedNote why status n → SaysMade whole n → ⊥
refused_says whole (part.Text refused.Memory) status n h says = unmade_says whole n note.OutOfMemory h.1 (λ x. x) says
refused_says whole (part.Text (refused.NotA t)) status n h says = unmade_says whole n (note.PartCursorRefused (part.Text (refused.NotA t))) h.1 (λ x. x) says
refused_says whole (part.Text refused.Version) status n h says = unmade_says whole n (note.PartCursorRefused (part.Text refused.Version)) h.1 (λ x. x) says
refused_says whole (part.Text refused.Damaged) status n h says = unmade_says whole n (note.PartCursorRefused (part.Text refused.Damaged)) h.1 (λ x. x) says
refused_says whole (part.Text refused.Malformed) status n h says = unmade_says whole n (note.PartCursorRefused (part.Text refused.Malformed)) h.1 (λ x. x) says
refused_says whole part.OtherPart status n h says = unmade_says whole n (note.PartCursorRefused part.OtherPart) h.1 (λ x. x) says

unread_says : (whole : Bool) (why : PartCursorStop) (status : ℕ) (n : Note) → IsPartUnreadNote why status n → SaysMade whole n → ⊥
unread_says whole stop.Read status n h says = unmade_says whole n note.CursorFileFailed h.1 (λ x. x) says
unread_says whole (stop.Refused why) status n h says = refused_says whole why status n h says

none_made : (whole : Bool) (further : Further) (e : PartEnds) (known : Option (Option Text)) (status : ℕ) (n : Note) → WhyNoPartRun further e known status n → SaysMade whole n → ⊥
none_made whole further e known status n (inl h) says = unread_says whole h.why status n h.says says
none_made whole further e known status n (inr (inl h)) says = unmade_says whole n (note.OtherAudit h.why) h.says.1 (λ x. x) says
none_made whole further e known status n (inr (inr (inl h))) says = unmade_says whole n note.CursorWorn h.says (λ x. x) says
none_made whole further e known status n (inr (inr (inr h))) says = unmade_says whole n note.OutOfMemory h.1 (λ x. x) says

-- ---- and of one that was

pub ran_says : (whole : Bool) (c : Cursor) (spent : ℕ) (finding : Bool) (how : RunStatus) (status : ℕ) (n : Note) → IsRunNote c spent finding how status n → SaysMade whole n → how ≡ end_by whole
ran_says whole c spent finding run.Ended status n h says = ap end_by (subst (SaysMade whole) h.1 says)
ran_says whole c spent finding run.Spent status n h says = ap end_by (subst (SaysMade whole) h.1 says)
ran_says whole c spent finding (run.Stopped why) status n h says = absurd (stop_says whole why n h.1 says)
ran_says whole c spent finding run.Worn status n h says = unmade_says whole n note.CursorWorn h.1 (λ x. x) says

-- the text that was handed back, and how the run ended
record Handed (e : PartEnds) (whole : Bool) (c : Cursor) (how : RunStatus) (stored : Option (Vec ℕ Global)) : Type 0 where
  handed : Text
  handed_is : option_map (λ bytes. bytes.items) stored ≡ Some handed
  text_is : handed ≡ part_text e c
  ended : how ≡ end_by whole

stored_says : (e : PartEnds) (whole : Bool) (c : Cursor) (spent : ℕ) (finding : Bool) (how : RunStatus) (status : ℕ) (n : Note) (stored : Option (Vec ℕ Global))
    → IsStoredNote (part_text e) c spent finding how status n stored → SaysMade whole n → Handed e whole c how stored
stored_says e whole c spent finding how status n None h says = unmade_says whole n note.OutOfMemory h.1 (λ x. x) says
stored_says e whole c spent finding how status n (Some bytes) h says = record {
  handed = bytes.items;
  handed_is = refl;
  text_is = h.0;
  ended = ran_says whole c spent finding how status n h.1 says;
}

-- ---- one call is a run

module _ (further : Further) (root : StorageRoot) (e : PartEnds) where
  abbrev run_of : PartCall → RunEnd → PartRun
  run_of c ran = record { limits = limits_of c.limits; report = c.report; opened = c.opened; ran = ran }

  -- a call that says that a run was made made one, and handed its cursor back
  record IsRun (stored : Option Text) (whole : Bool) (c : PartCall) : Type 0 where
    from : Cursor
    begins : BeginsPartWith further e (bytes_stored stored) from
    ran : RunEnd
    well : RanWell further root (part_between e) from (run_of c ran)
    keeps : IsCursor ran.cursor
    back : Handed e whole ran.cursor ran.end c.said.cursor

  is_run : (stored : Option Text) (whole : Bool) (c : PartCall) → CalledWell further root e stored c → SaysMade whole c.said.note → IsRun stored whole c
  is_run stored whole c h says = by h.performs
    where
      by : RunMade (BeginsPartWith further e (bytes_stored stored)) (part_text e) (known_call further root h.before h.behind h.old (h.old ++ c.report)) (part_between e) (limits_of c.limits) c.said.status c.said.note c.said.cursor
          ⊎ RunUnmade (WhyNoPartRun further e (bytes_stored stored) c.said.status c.said.note) (known_call further root h.before h.behind h.old (h.old ++ c.report)) c.said.cursor
          → IsRun stored whole c
      by (inl m) =
          let r = m.runs in
          record {
            from = m.from;
            begins = m.begins;
            ran = r.ran;
            well = record { before = h.before; behind = h.behind; old = h.old; runs = r.runs; opened_is = h.opened_is; unfailing = h.unfailing };
            keeps = r.keeps;
            back = stored_says e whole r.ran.cursor r.ran.spent r.ran.found r.ran.end c.said.status c.said.note c.said.cursor r.says says;
          }
      by (inr u) = absurd (none_made whole further e (bytes_stored stored) c.said.status c.said.note u.why says)

  -- what reads the bytes that it handed back begins with the cursor that it answered
  read_back : (stored : Option Text) (whole : Bool) (c : PartCall) (k : IsRun stored whole c) (d : Cursor) → IsPartFirst further e (bytes_stored (handed_by c)) d → d ≡ k.ran.cursor
  read_back stored whole c k d begins =
      let there : IsPartText e k.back.handed d = subst (λ x. IsPartFirst further e (bytes_stored x) d) k.back.handed_is begins in
      (part_text_determines k.back.handed e e d k.ran.cursor there (record { ends = there.ends; keeps = k.keeps; is = k.back.text_is })).1

  -- ---- the calls of a cycle are its runs

  record AreMade (stored : Option Text) (calls : List PartCall) : Type 0 where
    from : Cursor
    begins : BeginsPartWith further e (bytes_stored stored) from
    runs : List PartRun
    are : AreRuns further root (part_between e) from runs
    reports : reports_of runs ≡ written_by calls
    opened : opened_by further root runs ≡ content_opened further root calls
    limits : map (λ r. r.limits) runs ≡ limits_given calls
    count : length runs ≡ length calls

  one_more : (c : Cursor) (r : PartRun) (runs : List PartRun) → RanWell further root (part_between e) c r → r.ran.end ≡ run.Spent → AreRuns further root (part_between e) r.ran.cursor runs
      → AreRuns further root (part_between e) c (r ∷ runs)
  one_more c r [] well spent are = absurd are
  one_more c r (q ∷ runs) well spent are = (well, (spent, are))

  are_made : (stored : Option Text) (calls : List PartCall) → AreCalls further root e stored calls → AreMade stored calls
  are_made stored [] h = absurd h
  are_made stored (c ∷ []) h =
      let k = is_run stored true c h.0 h.1 in
      record {
        from = k.from;
        begins = k.begins;
        runs = run_of c k.ran ∷ [];
        are = (k.well, k.back.ended);
        reports = refl;
        opened = refl;
        limits = refl;
        count = refl;
      }
  are_made stored (c ∷ d ∷ calls) h =
      let k = is_run stored false c h.0 h.1.0 in
      let later = are_made (handed_by c) (d ∷ calls) h.1.1 in
      let same : later.from ≡ k.ran.cursor = read_back stored false c k later.from later.begins.1 in
      record {
        from = k.from;
        begins = k.begins;
        runs = run_of c k.ran ∷ later.runs;
        are = one_more k.from (run_of c k.ran) later.runs k.well k.back.ended (subst (λ x. AreRuns further root (part_between e) x later.runs) same later.are);
        reports = ap (λ x. c.report ++ x) later.reports;
        opened = ap (λ x. content_trail further root c.opened ++ x) later.opened;
        limits = ap (λ x. limits_of c.limits ∷ x) later.limits;
        count = ap suc later.count;
      }

  -- it begins with the part's first item
  pub fresh : (stored : Option Text) (c : Cursor) → BeginsCycle e stored → IsPartFirst further e (bytes_stored stored) c → place_in c.state ≡ None
  fresh None c begins h = ap (λ x. place_in x.state) h
  fresh (Some bytes) c begins h = begins c h

  -- the cursor of a run that ended the cycle begins the next
  ended_anew : (stored : Option Text) (c : PartCall) → IsRun stored true c → BeginsCycle e (handed_by c)
  ended_anew stored c k = subst (BeginsCycle e) (sym k.back.handed_is)
      (λ d there.
      let same : d ≡ k.ran.cursor = (part_text_determines k.back.handed e e d k.ran.cursor there (record { ends = there.ends; keeps = k.keeps; is = k.back.text_is })).1 in
      ap (λ x. place_in x.state) (same ∙ k.well.runs.cursor_is) ∙ ap (λ x. place_in (state_after x k.well.runs.last)) k.back.ended)

  pub next_cycle : (stored : Option Text) (calls : List PartCall) → AreCalls further root e stored calls → BeginsCycle e (stored_after stored calls)
  next_cycle stored [] h = absurd h
  next_cycle stored (c ∷ []) h = ended_anew stored c (is_run stored true c h.0 h.1)
  next_cycle stored (c ∷ d ∷ calls) h = next_cycle (handed_by c) (d ∷ calls) h.1.1

  module _ (stored : Option Text) (calls : List PartCall) (begins : BeginsCycle e stored) (h : AreCalls further root e stored calls) where
    made : AreMade stored calls
    made = are_made stored calls h

    anew : place_in made.from.state ≡ None
    anew = fresh stored made.from begins made.begins.1

    pub calls_report : written_by calls ≡ text (within (part_between e) (audit further root []))
    calls_report = sym made.reports ∙ part_reports further root (part_between e) made.from made.runs anew made.are

    pub calls_open : content_opened further root calls ≡ hashed_among further root (places_within (part_between e) (item_places further root))
    calls_open = sym made.opened ∙ part_opened further root (part_between e) made.from made.runs anew made.are

    pub calls_few : (b n : ℕ) → 1 ≤ b → 1 ≤ n → All (IsAtLeast b n) (limits_given calls)
        → length calls ≤ total_cost (within (part_between e) (audit further root [])) / b + total_files (within (part_between e) (audit further root [])) / n + 1
    calls_few b n p q large =
        let few = part_runs further root (part_between e) made.from made.runs anew made.are b n p q (subst (All (IsAtLeast b n)) (sym made.limits) large) in
        let count = made.count in
        omega (arith, few, count)

-- ---- all parts

module _ (further : Further) (root : StorageRoot) where
  reports_each : (ds : List CalledCycle) → AllByRecursion (IsCalledCycle further root) ds
      → flat_map (λ d. written_by d.calls) ds ≡ flat_map (λ part. text (within part (audit further root []))) (map part_between (map (λ d. d.ends) ds))
  reports_each [] h = refl
  reports_each (d ∷ ds) h = ap (λ x. x ++ flat_map (λ d. written_by d.calls) ds) (calls_report further root d.ends d.stored d.calls h.0.begins h.0.are)
      ∙ ap (λ x. text (within (part_between d.ends) (audit further root [])) ++ x) (reports_each ds h.1)

  opened_each : (ds : List CalledCycle) → AllByRecursion (IsCalledCycle further root) ds
      → flat_map (λ d. content_opened further root d.calls) ds ≡ flat_map (λ part. hashed_among further root (places_within part (item_places further root))) (map part_between (map (λ d. d.ends) ds))
  opened_each [] h = refl
  opened_each (d ∷ ds) h = ap (λ x. x ++ flat_map (λ d. content_opened further root d.calls) ds) (calls_open further root d.ends d.stored d.calls h.0.begins h.0.are)
      ∙ ap (λ x. hashed_among further root (places_within (part_between d.ends) (item_places further root)) ++ x) (opened_each ds h.1)

  module _ (b : Text) (ds : List CalledCycle) (all : AreAllFrom b 1 (map (λ d. d.ends) ds)) (done : AllByRecursion (IsCalledCycle further root) ds) where
    pub called_reports : flat_map (λ d. written_by d.calls) ds ≡ text (audit further root [])
    called_reports =
        let parts = all_parts b (map (λ d. d.ends) ds) all in
        reports_each ds done ∙ ap (flat_map (λ part. text (within part (audit further root [])))) parts.1.1 ∙ texts_join further root parts.0 parts.1.0.separators.ascend []

    pub called_opened : flat_map (λ d. content_opened further root d.calls) ds ≡ hashed_among further root (item_places further root)
    called_opened =
        let parts = all_parts b (map (λ d. d.ends) ds) all in
        opened_each ds done ∙ ap (flat_map (λ part. hashed_among further root (places_within part (item_places further root)))) parts.1.1 ∙ hashed_join further root parts.0 parts.1.0.separators.ascend
