-- What the steps of a night keep.
use Rattle.std.proofs.Common.{◌≡◌, ◌≢◌, ◌⊎◌, inl, inr, ℕ, ◌-◌, ◌≤◌, List, [], ◌∷◌, ◌++◌, length, take, drop, Option, None, MatchOption, Bool, ◌&&◌, refl, sym, ◌∙◌, ap, subst, arith, append_assoc, length-append, true, false, take-append-drop}
use Rattle.std.proofs.lemmas.List.{append-nil, take_all, take-append-le, length-drop}
use Rattle.ocfl_tree.specs.{Place.{Text, Place}, StorageRoot.{StorageRoot}}
use Rattle.ocfl_report.specs.declared.further.Further.{Further}
use Rattle.ocfl_rules.specs.{Lines.{is_empty}, Parts.{Part}, Trail.{unread_of}}
use Rattle.ocfl_cursor.specs.Cursor.{Cursor}
use Rattle.ocfl_scrub.specs.{Joining.{Ran}, Running.{place_in, begun}, declared.running.RunEnd.{RunEnd}}
use Rattle.ocfl_scrub.specs.declared.running.RunStatus.{RunStatus}
use Rattle.ocfl_scrub.specs.declared.running.RunStatus.TheVariants as status
use Rattle.ocfl_state.specs.Checkpoint.{Checkpoint}
use Rattle.ocfl_state.specs.Content.{Content, Closed, with_report, moved, is_closed}
use Rattle.ocfl_state.specs.Crash.{Outcomes, Step, Begins, Only, Same, Passes, LeavesOnly}
use Rattle.ocfl_state.specs.Pieces.{summary_of}
use Rattle.ocfl_state.specs.declared.checkpoint_parts.Phase.TheVariants.{Open, Closing}
use Rattle.ocfl_state.specs.declared.checkpoint_parts.Left.{Left}
use Rattle.ocfl_state.specs.declared.checkpoint_parts.ReportMark.{ReportMark}
use Rattle.ocfl_state.specs.declared.checkpoint_parts.RootIdentity.{RootIdentity}
use Rattle.ocfl_state.specs.declared.checkpoint_parts.TopNames.{TopNames}
use Rattle.ocfl_state.specs.declared.folder.StateFolder as state
use Rattle.ocfl_state.proofs.CheckpointTexts.{text_determines}
use Rattle.ocfl_night.specs.Chain.{AreNextIn, NoneBefore, RootRun, joined, look_of, part_after, LeadTo, EndAt, LedBy, LedToEnd, HasRuns, IsReportOf, HasClosed}
use Rattle.ocfl_night.specs.Looks.{IfGiven, IsNoMore, IsOneOf, IsRootOf, IsWithin, Look, Rounds}
use Rattle.ocfl_night.specs.Sound.{closed_text, IsOpen, IsClosing, IsMoved, Stands, IsNew, IsMarked, IsSoundAt, IsAt, IsSettled, IsReady, IsOneMore, IsShut}
use Rattle.ocfl_night.specs.{Site.{first_checkpoint}, declared.site.Site.{Site}}
use Rattle.ocfl_identity.specs.declared.identity.Identity.{Identity}
use Rattle.ocfl_night.specs.Promises.{IsBranchNext}
use Rattle.ocfl_night.specs.Steps.{begun_anew, closes_whole, left_at, with_left, KeepsFront, MayCheckpoint, IsCheckpointPut, IsMoveDone, MayMoveAt, IsRun, IsNext, unsaid, with_all_said}
use Rattle.ocfl_night.proofs.Looks.{given_on, given_so, one_of_on}
use Rattle.ocfl_night.proofs.Moments.{OnlyNow, leaves, left_after, joined_moments, only_same}
use Rattle.ocfl_night.proofs.Chains.{next_on, led_on, led_to_end, leave_on, looked_on, joined_on, run_checks, same_cycle, ended_cursor, next_cycle_begun, has_at, has_in, has_none, has_on, not_there, last_closed, closed_text_on, take_nothing}

-- how long a report is of which a checkpoint has the summary
pub long : (text : Text) (m : ReportMark) → m ≡ summary_of text → m.bytes ≡ length text
long text m is = ap (λ (x : ReportMark). x.bytes) is

-- at a checkpoint, and as it says
pub record Holds (rounds : Rounds) (t : Text) (k : Checkpoint) (c : Content) : Type 0 where
  pub at : IsAt k c
  pub stands : Stands rounds t k c

-- a checkpoint with these bytes is as it says, or there is none and no night was there
abbrev Says : Rounds → Text → Content → Option (List ℕ) → Type 0
Says rounds t c o = MatchOption o (IsNew t c) (λ bytes. IsMarked rounds t bytes c)

module _ {rounds : Rounds} {t : Text} {c : Content} where
  pub sound_holds : {k : Checkpoint} → Holds rounds t k c → IsSoundAt rounds t c
  sound_holds {k} h = subst (Says rounds t c) (sym h.at.is) (record { checkpoint = k; is = h.at.text; stands = h.stands })

  pub holds_sound : {k : Checkpoint} → IsSoundAt rounds t c → IsAt k c → Holds rounds t k c
  holds_sound {k} sound at =
      let marked : IsMarked rounds t at.bytes c = subst (Says rounds t c) at.is sound in
      let same : marked.checkpoint ≡ k = text_determines at.bytes marked.checkpoint k marked.is at.text in
      record { at = at; stands = subst (λ (x : Checkpoint). Stands rounds t x c) same marked.stands }

  -- what a checkpoint says of the root is no matter here, nor its bytes
  pub stands_as : {k : Checkpoint} {root : RootIdentity} {names : TopNames} {bytes : Option (List ℕ)} → Stands rounds t k c → Stands rounds t (record k { root = root; names = names }) (record c { checkpoint = bytes })
  stands_as (inl o) = inl (record { phase = o.phase; led = o.led; text = o.text; report = o.report; begins = o.begins; is_whole = o.is_whole; lossless = o.lossless; said = o.said; said_is = o.said_is; earlier = o.earlier })
  stands_as (inr (inl w)) = inr (inl (record { phase = w.phase; led = w.led; ends = w.ends; report = w.report; is_whole = w.is_whole; lossless = w.lossless; said = w.said; said_is = w.said_is; earlier = w.earlier }))
  stands_as (inr (inr w)) = inr (inr (record { phase = w.phase; ends = w.ends; checks = w.checks; empty = w.empty; there = w.there; said = w.said; said_is = w.said_is; earlier = w.earlier }))

  pub renamed : {k next : Checkpoint} {root : RootIdentity} {names : TopNames} → next ≡ record k { root = root; names = names } → Stands rounds t k c → Stands rounds t next c
  renamed is stands = subst (λ (x : Checkpoint). Stands rounds t x c) (sym is) (stands_as stands)

pub new_sound : (rounds : Rounds) {t : Text} {c : Content} → IsSoundAt rounds t c → c.checkpoint ≡ None → IsNew t c
new_sound rounds {t} {c} sound none = subst (Says rounds t c) none sound

pub sound_new : (rounds : Rounds) {t : Text} {c : Content} → c.checkpoint ≡ None → IsNew t c → IsSoundAt rounds t c
sound_new rounds {t} {c} none new = subst (Says rounds t c) (sym none) new

module _ {rounds : Rounds} {t : Text} {k : Checkpoint} {d c : Content} where
  pub marked_put : Stands rounds t k d → IsCheckpointPut k d c → Holds rounds t k c
  marked_put stands put = subst (Holds rounds t k) (sym put.put) (record { at = record { bytes = put.bytes; is = refl; text = put.text }; stands = stands_as stands })

  -- the old checkpoint or the new one
  pub sound_mark : IsSoundAt rounds t d → Stands rounds t k d → MayCheckpoint k d c → IsSoundAt rounds t c
  sound_mark sound stands (inl same) = subst (IsSoundAt rounds t) (sym same) sound
  sound_mark sound stands (inr (bytes, (text, put))) = sound_holds (marked_put stands (record { bytes = bytes; text = text; put = put }))

-- ---- phases

module _ {rounds : Rounds} {t : Text} {k : Checkpoint} {c : Content} where
  pub open_of : k.phase ≡ Open → Stands rounds t k c → IsOpen rounds t k c
  open_of is (inl o) = o
  open_of is (inr (inl w)) = absurd (cc (is, w.phase))
  open_of is (inr (inr w)) = absurd (cc (is, w.phase))

  pub closing_of : k.phase ≡ Closing → Stands rounds t k c → IsClosing rounds t k c ⊎ IsMoved rounds t k c
  closing_of is (inl o) = absurd (cc (is, o.phase))
  closing_of is (inr w) = w

-- the checkpoint stays
moved_at : {k : Checkpoint} {d c : Content} → c.checkpoint ≡ d.checkpoint → IsAt k d → IsAt k c
moved_at same at = record { bytes = at.bytes; is = same ∙ at.is; text = at.text }

-- the report is another one after the checkpoint's bytes
reopened : {rounds : Rounds} {t : Text} {k : Checkpoint} {d c : Content} (o : IsOpen rounds t k d) → Begins o.text c.report → c.closed ≡ d.closed → IsOpen rounds t k c
reopened o begins closed =
    record { phase = o.phase; led = o.led; text = o.text; report = o.report; begins = begins; is_whole = o.is_whole; lossless = o.lossless; said = o.said; earlier = has_in closed o.earlier; said_is = o.said_is }

-- it is torn there
pub torn : {rounds : Rounds} {t : Text} {k : Checkpoint} {n : ℕ} {d c : Content} → k.phase ≡ Open → k.report.bytes ≤ n → Holds rounds t k d → KeepsFront n d c → Holds rounds t k c
torn {k = k} is le h keeps =
    let o = open_of is h.stands in
    let begins = keeps.front o.text (omega (arith, long o.text k.report o.report, le)) o.begins in
    record { at = moved_at keeps.checkpoint h.at; stands = inl (reopened o begins keeps.closed) }

-- ---- texts

none_left : (rest : Text) → length rest ≡ 0 → rest ≡ []
none_left [] is = refl
none_left (x ∷ rest) is = absurd (omega (arith, is))

begins_exact : (front text : Text) → Begins front text → length text ≡ length front → text ≡ front
begins_exact front text b long =
    let left : length b.0 ≡ 0 = omega (arith, long, ap length b.1, length-append front b.0) in
    b.1 ∙ ap (λ (l : Text). front ++ l) (none_left b.0 left) ∙ append-nil front

-- the report of a checkpoint after which there is nothing
exact_text : {rounds : Rounds} {t : Text} {k : Checkpoint} {c : Content} (o : IsOpen rounds t k c) → length c.report ≡ k.report.bytes → c.report ≡ o.text
exact_text {k = k} {c = c} o exact = begins_exact o.text c.report o.begins (exact ∙ long o.text k.report o.report)

-- ---- the checkpoint after a run

pub record After_run (rounds : Rounds) (t : Text) (next : Checkpoint) (c : Content) : Type 0 where
  pub stands : Stands rounds t next c
  pub exact : next.phase ≡ Open → length c.report ≡ next.report.bytes

module _ {rounds : Rounds} {t : Text} {k next : Checkpoint} {look : Look} {ran : RunEnd} {d c : Content} {lines : Text} (o : IsOpen rounds t k d) (exact : length d.report ≡ k.report.bytes)
    (one : IsOneOf rounds.known look) (e : IsRun (part_after rounds.part k.left) k.cursor look lines ran) (grown : c ≡ with_report (d.report ++ lines) d) (n : IsNext k ran (summary_of c.report) next) where
  abbrev r : RootRun
  r = record { root = look.root; run = e.run }

  -- it checks what the rounds do
  made : Ran rounds.further look.root (part_after rounds.part k.left) k.cursor e.run
  made = subst (λ (f : Further). Ran f look.root (part_after rounds.part k.left) k.cursor e.run) o.led.checks e.made

  checks : next.cursor.further ≡ rounds.further
  checks = ap (λ (x : Cursor). x.further) (n.cursor_is ∙ sym (ap (λ (x : RunEnd). x.cursor) e.ran_is)) ∙ run_checks rounds.further look.root (part_after rounds.part k.left) k.cursor e.run made ∙ o.led.checks

  now : c.report ≡ o.text ++ e.run.report
  now = ap (λ (x : Content). x.report) grown ∙ ap (λ (l : Text). d.report ++ l) e.lines_are ∙ ap (λ (l : Text). l ++ e.run.report) (exact_text o exact)

  closed : c.closed ≡ d.closed
  closed = ap (λ (x : Content). x.closed) grown

  longer : length o.text ≤ length c.report
  longer = omega (arith, ap length now, length-append o.text e.run.report)

  counted : next.report.bytes ≡ length c.report
  counted = long c.report next.report n.report_is

  said_same : next.said ≡ k.said
  said_same = ap (λ (x : Checkpoint). x.said) n.rest_is

  said : next.said ≤ next.report.bytes
  said = omega (arith, said_same, counted, o.said, long o.text k.report o.report, longer)

  said_text : t ≡ closed_text o.earlier.all ++ take next.said c.report
  said_text =
      o.said_is
      ∙ ap (λ (l : Text). closed_text o.earlier.all ++ l) (sym (take-append-le k.said o.text e.run.report (omega (arith, o.said, long o.text k.report o.report))) ∙ ap (take k.said) (sym now) ∙ ap (λ (m : ℕ). take m c.report) (sym said_same))

  whole : next.whole ≡ true → c.report ≡ joined (o.led.runs ++ r ∷ [])
  whole is = now ∙ ap (λ (l : Text). l ++ e.run.report) (o.is_whole (sym (ap (λ (x : Checkpoint). x.whole) n.rest_is) ∙ is)) ∙ sym (joined_on o.led.runs r)

  lossless : IfGiven rounds.known (next.whole ≡ true)
  lossless = given_on rounds.known (λ sure. ap (λ (x : Checkpoint). x.whole) n.rest_is ∙ sure) o.lossless

  led_by : (Last : Further → Part → Cursor → List RootRun → Cursor → Type 0) {last : Cursor} → last ≡ next.cursor → LedBy Last rounds.further rounds.part o.led.first (o.led.runs ++ r ∷ []) k.left last → HasRuns Last rounds next.left next.cursor
  led_by Last {last} is chain = record {
    first = o.led.first;
    runs = o.led.runs ++ r ∷ [];
    starts = o.led.starts;
    checks = checks;
    chain = subst (LedBy Last rounds.further rounds.part o.led.first (o.led.runs ++ r ∷ []) next.left) is (subst (λ (left : List Left). LedBy Last rounds.further rounds.part o.led.first (o.led.runs ++ r ∷ []) left last) (sym (ap (λ (x : Checkpoint). x.left) n.rest_is)) chain);
    next = subst (AreNextIn rounds.further rounds.known rounds.part) (sym (ap (λ (x : Checkpoint). x.left) n.rest_is)) o.led.next;
    looked = looked_on rounds.further rounds.known o.led.runs r o.led.looked (one_of_on rounds.known within one);
  }
    where
      within : IsWithin (look_of rounds.further r) look
      within = record { root = refl; unread = subst (λ (f : Further). IsNoMore (unread_of f look.root e.run.opened) look.unread) o.led.checks e.looked }

  goes : e.run.ran.end ≢ status.Ended → After_run rounds t next c
  unfolding led_by
  goes not_ended =
      let open_now : IsOpen rounds t next c = record {
        phase = n.goes_on (λ is. not_ended (ap (λ (x : RunEnd). x.end) e.ran_is ∙ is));
        led = led_by LeadTo (ap (λ (x : RunEnd). x.cursor) e.ran_is ∙ sym n.cursor_is) (led_on rounds.further rounds.part o.led.first k.cursor o.led.runs k.left r o.led.chain made not_ended);
        text = c.report;
        report = n.report_is;
        begins = ([], sym (append-nil c.report));
        is_whole = whole;
        lossless = lossless;
        said = said;
        earlier = has_at (sym (same_cycle rounds.further look.root (part_after rounds.part k.left) k.cursor e.run made not_ended) ∙ ap (λ (x : RunEnd). (begun x.cursor).cycle) e.ran_is ∙ ap (λ (x : Cursor). (begun x).cycle) (sym n.cursor_is)) (has_in closed o.earlier);
        said_is = said_text;
      } in
      record { stands = inl open_now; exact = λ is. sym counted }

  ends : e.run.ran.end ≡ status.Ended → After_run rounds t next c
  unfolding led_by
  ends is =
      let at = ended_cursor rounds.further look.root (part_after rounds.part k.left) k.cursor e.run made is in
      let cursor : e.run.ran.cursor ≡ next.cursor = ap (λ (x : RunEnd). x.cursor) e.ran_is ∙ sym n.cursor_is in
      let phase : next.phase ≡ Closing = n.ended (sym (ap (λ (x : RunEnd). x.end) e.ran_is) ∙ is) in
      let closing_now : IsClosing rounds t next c = record {
        phase = phase;
        led = led_by EndAt cursor (led_to_end rounds.further rounds.part o.led.first k.cursor o.led.runs k.left r o.led.chain made is);
        ends = ap (λ (x : Cursor). x.state) (sym cursor) ∙ at.0;
        report = n.report_is;
        is_whole = whole;
        lossless = lossless;
        said = said;
        earlier = has_at (sym at.1 ∙ ap (λ (x : Cursor). x.cycle) cursor) (has_in closed o.earlier);
        said_is = said_text;
      } in
      record { stands = inr (inl closing_now); exact = λ is. absurd (cc (phase, is)) }

  by : (s : RunStatus) → e.run.ran.end ≡ s → After_run rounds t next c
  by status.Ended is = ends is
  by status.Spent is = goes (λ x. absurd (cc (is, x)))
  by (status.Stopped why) is = goes (λ x. absurd (cc (is, x)))
  by status.Worn is = goes (λ x. absurd (cc (is, x)))

  after_run : After_run rounds t next c
  after_run = by e.run.ran.end refl

-- ---- a folder at a checkpoint

module _ {F : Type 0} {S : state.Ghosts F} {rounds : Rounds} {t : Text} {k : Checkpoint} {f : F} where
  pub settled_holds : IsSettled S rounds t k f → (c : Content) → S.may_leave f c → Holds rounds t k c
  settled_holds r c left = subst (Holds rounds t k) (sym (r.only c left)) (record { at = r.at; stands = r.stands })

  pub settled_sound : IsSettled S rounds t k f → (c : Content) → S.may_leave f c → IsSoundAt rounds t c
  settled_sound r c left = sound_holds (settled_holds r c left)

  settled : IsReady S rounds t k f → IsSettled S rounds t k f
  settled r = record { at = r.at; stands = r.stands; only = r.only }

  pub ready_holds : IsReady S rounds t k f → (c : Content) → S.may_leave f c → Holds rounds t k c
  ready_holds r c left = settled_holds (settled r) c left

  pub ready_sound : IsReady S rounds t k f → (c : Content) → S.may_leave f c → IsSoundAt rounds t c
  ready_sound r c left = settled_sound (settled r) c left

  -- a call changed nothing
  pub ready_on : {g : F} → IsReady S rounds t k f → S.seen g ≡ S.seen f → Passes S.may_leave S.moment S.left_since Same f g → IsReady S rounds t k g
  ready_on r same p = record {
    at = subst (IsAt k) (sym same) r.at;
    stands = subst (Stands rounds t k) (sym same) r.stands;
    exact = λ is. ap (λ (x : Content). length x.report) same ∙ r.exact is;
    only = only_same S.seen p same r.only;
  }

  -- a checkpoint was put
  pub put_ready : {d : Content} → IsCheckpointPut k d (S.seen f) → Stands rounds t k d → (k.phase ≡ Open → length d.report ≡ k.report.bytes) → Only (S.seen f) (S.may_leave f) → IsReady S rounds t k f
  put_ready put stands exact only =
      let holds = marked_put stands put in
      record { at = holds.at; stands = holds.stands; exact = λ is. ap (λ (x : Content). length x.report) put.put ∙ exact is; only = only }

  -- what is torn is after the checkpoint's bytes
  pub torn_sound : {n : ℕ} → k.phase ≡ Open → k.report.bytes ≤ n → IsSettled S rounds t k f → (d c : Content) → S.may_leave f d → KeepsFront n d c → IsSoundAt rounds t c
  torn_sound is le r d c left keeps = sound_holds (torn is le (settled_holds r d left) keeps)

  pub run_sound : k.phase ≡ Open → IsReady S rounds t k f → (d c : Content) → S.may_leave f d → KeepsFront (length (S.seen f).report) d c → IsSoundAt rounds t c
  run_sound is r d c left keeps = torn_sound is (omega (arith, r.exact is)) (settled r) d c left keeps

  -- the checkpoint has the mark of the whole report
  pub ready_mark : k.phase ≡ Open → IsReady S rounds t k f → k.report ≡ summary_of (S.seen f).report
  ready_mark is r =
      let o = open_of is r.stands in
      o.report ∙ ap summary_of (sym (exact_text o (r.exact is)))

  pub after_extended : {next : Checkpoint} {look : Look} {ran : RunEnd} {lines : Text} {c : Content} {mark report : ReportMark} → k.phase ≡ Open → IsReady S rounds t k f
      → IsOneOf rounds.known look → IsRun (part_after rounds.part k.left) k.cursor look lines ran → c ≡ with_report ((S.seen f).report ++ lines) (S.seen f)
      → mark ≡ k.report → (mark ≡ summary_of (S.seen f).report → report ≡ summary_of c.report) → IsNext k ran report next → After_run rounds t next c
  after_extended {next} {ran = ran} is r one run grown marked keeps n =
      after_run (open_of is r.stands) (r.exact is) one run grown (subst (λ (m : ReportMark). IsNext k ran m next) (keeps (marked ∙ ready_mark is r)) n)

-- a checkpoint was put after another one
pub put_on : {F : Type 0} {S : state.Ghosts F} {rounds : Rounds} {t u : Text} {k next : Checkpoint} {f h : F} → IsReady S rounds t k f → Stands rounds u next (S.seen f) → IsCheckpointPut next (S.seen f) (S.seen h)
    → next.report.bytes ≡ k.report.bytes → next.phase ≡ k.phase → Only (S.seen h) (S.may_leave h) → IsReady S rounds u next h
put_on r stands put bytes phase only = put_ready put stands (λ is. r.exact (sym phase ∙ is) ∙ sym bytes) only

module _ {F : Type 0} {may_leave : F → Outcomes} {moment : F → ℕ} {left_since : F → ℕ → Outcomes} (only_now : OnlyNow may_leave moment left_since) {rounds : Rounds} {t : Text} {k : Checkpoint} {shown : Content} {g h : F} where
  -- a checkpoint is put
  pub mark_moments : ((c : Content) → may_leave g c → IsSoundAt rounds t c) → Only shown (may_leave g) → Stands rounds t k shown → Passes may_leave moment left_since (MayCheckpoint k) g h → LeavesOnly moment left_since g h (IsSoundAt rounds t)
  mark_moments here only stands p = leaves only_now here (λ d c n mark. sound_mark (here d n) (subst (Stands rounds t k) (sym (only d n)) stands) mark) p

  -- and before it something else is done
  pub mark_after : {step : Step} {f : F} → ((c : Content) → may_leave f c → IsSoundAt rounds t c) → ((d c : Content) → may_leave f d → step d c → IsSoundAt rounds t c) → Passes may_leave moment left_since step f g
      → Only shown (may_leave g) → Stands rounds t k shown → Passes may_leave moment left_since (MayCheckpoint k) g h → LeavesOnly moment left_since f h (IsSoundAt rounds t)
  mark_after here after p only stands q = joined_moments (leaves only_now here after p) (mark_moments (left_after after p) only stands q)

-- a checkpoint is put after another one
pub put_moments : {F : Type 0} {S : state.Ghosts F} {rounds : Rounds} {t : Text} {k next : Checkpoint} {f h : F} → OnlyNow S.may_leave S.moment S.left_since
    → IsReady S rounds t k f → Stands rounds t next (S.seen f) → Passes S.may_leave S.moment S.left_since (MayCheckpoint next) f h → LeavesOnly S.moment S.left_since f h (IsSoundAt rounds t)
put_moments only_now r stands p = mark_moments only_now (ready_sound r) r.only stands p

-- ---- opening

-- what is cut is after the checkpoint's bytes
pub cut_open : {rounds : Rounds} {t : Text} {k : Checkpoint} {d c : Content} → k.phase ≡ Open → Holds rounds t k d → c ≡ with_report (take k.report.bytes d.report) d → Holds rounds t k c × (length c.report ≡ k.report.bytes)
cut_open {k = k} {d} {c} is h cut =
    let o = open_of is h.stands in
    let n = k.report.bytes in
    let counted = long o.text k.report o.report in
    let same : take n d.report ≡ o.text = ap (take n) o.begins.1 ∙ take-append-le n o.text o.begins.0 (omega (arith, counted)) ∙ take_all n o.text (omega (arith, counted)) in
    let report : c.report ≡ o.text = ap (λ (x : Content). x.report) cut ∙ same in
    let open_still = reopened o ([], report ∙ sym (append-nil o.text)) (ap (λ (x : Content). x.closed) cut) in
    (record { at = moved_at (ap (λ (x : Content). x.checkpoint) cut) h.at; stands = inl open_still }, ap length report ∙ sym counted)

-- there is nothing of a cycle's report yet
fresh_stands : {rounds : Rounds} {t : Text} {c : Content} (k : Checkpoint) → place_in k.cursor.state ≡ None → k.cursor.further ≡ rounds.further → (earlier : HasClosed rounds (begun k.cursor).cycle c.closed) → t ≡ closed_text earlier.all → Stands rounds t (begun_anew k) c
fresh_stands {rounds} {c = c} k starts checks earlier said_is = inl (record {
  phase = refl;
  led = record { first = k.cursor; runs = []; starts = starts; checks = checks; chain = refl; next = tt; looked = tt };
  text = [];
  report = refl;
  begins = (c.report, refl);
  is_whole = λ is. refl;
  lossless = given_so rounds.known refl;
  said = omega arith;
  earlier = earlier;
  said_is = said_is ∙ sym (ap (λ (l : Text). closed_text earlier.all ++ l) (take_nothing 0) ∙ append-nil (closed_text earlier.all));
})

-- the first checkpoint
pub first_stands : {rounds : Rounds} {k : Checkpoint} {c : Content} (site : Site) (id : Identity) → rounds.further ≡ site.further → k ≡ first_checkpoint site id → IsNew [] c → Stands rounds [] k c
first_stands {rounds} {k} {c} site id checks is new =
    subst (λ (x : Checkpoint). Stands rounds [] x c) (sym is)
    (fresh_stands (first_checkpoint site id) refl (sym checks) (has_none new.closed) refl)

-- ---- closing

both_ways : true ≡ false → ⊥
both_ways same = cc

closes_by : (whole : Bool) (left : List Left) → (whole && is_empty left) ≡ true → (whole ≡ true) × (left ≡ [])
closes_by true [] both = (refl, refl)
closes_by true (l ∷ left) both = absurd (both_ways (sym both))
closes_by false left both = absurd (both_ways (sym both))

module _ {rounds : Rounds} {t : Text} {k : Checkpoint} {d : Content} where
  pub shut_closing : IsMoved rounds t k d → is_closed d.closed k.cursor.cycle ≡ true
  shut_closing w = w.there

  pub not_shut : IsClosing rounds t k d → is_closed d.closed k.cursor.cycle ≡ false
  not_shut w = not_there w.earlier (omega arith)

  whole_report : IsClosing rounds t k d → (k.whole ≡ true) × (k.left ≡ []) → IsReportOf rounds [] (record { cycle = k.cursor.cycle; whole = closes_whole k; report = d.report })
  whole_report w both = record {
    last = k.cursor;
    led = record {
      first = w.led.first;
      runs = w.led.runs;
      starts = w.led.starts;
      checks = w.led.checks;
      chain = subst (λ (l : List Left). LedToEnd rounds.further rounds.part w.led.first w.led.runs l k.cursor) both.1 w.led.chain;
      next = tt;
      looked = w.led.looked;
    };
    cycle = refl;
    report = w.is_whole both.0;
  }

  partial_report : IsClosing rounds t k d → k.whole ≡ true → closes_whole k ≡ false → (left : List Left) × ((left ≢ []) × IsReportOf rounds left (record { cycle = k.cursor.cycle; whole = closes_whole k; report = d.report }))
  partial_report w sure incomplete =
      let some : k.left ≢ [] = λ none. both_ways (sym (ap (λ (b : Bool). b && is_empty k.left) sure ∙ ap (λ (l : List Left). true && is_empty l) none) ∙ incomplete) in
      (k.left, (some, record { last = k.cursor; led = w.led; cycle = refl; report = w.is_whole sure }))

  module _ {c : Content} (is : k.phase ≡ Closing) (said : k.said ≡ k.report.bytes) where
    after_move : IsClosing rounds t k d → c ≡ moved k.cursor.cycle (closes_whole k) d → IsMoved rounds t k c
    after_move w put =
        let x : Closed = record { cycle = k.cursor.cycle; whole = closes_whole k; report = d.report } in
        let closed : c.closed ≡ d.closed ++ x ∷ [] = ap (λ (y : Content). y.closed) put in
        record {
          phase = is;
          ends = w.ends;
          checks = w.led.checks;
          empty = ap (λ (y : Content). y.report) put;
          there = ap (λ (l : List Closed). is_closed l k.cursor.cycle) closed ∙ last_closed d.closed x;
          said = said;
          earlier = has_on x closed refl (record { whole = λ whole. whole_report w (closes_by k.whole k.left whole); partial = given_on rounds.known (λ sure incomplete. partial_report w sure incomplete) w.lossless }) w.earlier;
          said_is = w.said_is ∙ ap (λ (l : Text). closed_text w.earlier.all ++ l) (take_all k.said d.report (omega (arith, said, long d.report k.report w.report))) ∙ sym (closed_text_on w.earlier.all x);
        }

    pub move_done : Stands rounds t k d → IsMoveDone k.cursor.cycle (closes_whole k) d c → IsMoved rounds t k c
    move_done stands done = both (closing_of is stands) done
      where
        both : IsClosing rounds t k d ⊎ IsMoved rounds t k d → IsMoveDone k.cursor.cycle (closes_whole k) d c → IsMoved rounds t k c
        both (inl w) (inl was) = absurd (cc (not_shut w, was.0))
        both (inl w) (inr now) = after_move w now.1
        both (inr w) (inl was) = subst (IsMoved rounds t k) (sym was.1) w
        both (inr w) (inr now) = absurd (cc (shut_closing w, now.0))

    pub move_holds : {shown : Content} → Holds rounds t k d → d ≡ shown → MayMoveAt k.cursor.cycle (closes_whole k) shown d c → Holds rounds t k c
    move_holds h same (inl stayed) = subst (Holds rounds t k) (sym stayed) h
    move_holds h same (inr now) = record {
      at = moved_at (ap (λ (x : Content). x.checkpoint) now.1) h.at;
      stands = inr (inr (move_done h.stands (inr (ap (λ (x : Content). is_closed x.closed k.cursor.cycle) same ∙ now.0, now.1))));
    }

-- the next cycle begins at the cursor that ended the last one
pub next_stands : {rounds : Rounds} {t : Text} {k next : Checkpoint} {c : Content} → next ≡ begun_anew k → IsMoved rounds t k c → Stands rounds t next c
next_stands {rounds} {t} {k} {next} {c} is w =
    subst (λ (x : Checkpoint). Stands rounds t x c) (sym is)
    (fresh_stands k (ap place_in w.ends) w.checks (has_at (sym (next_cycle_begun k.cursor w.ends)) w.earlier) w.said_is)

-- ---- leaving a branch out

-- the checkpoint that names it
pub left_stands : {rounds : Rounds} {t : Text} {k next : Checkpoint} {c : Content} (branch : Place) → next ≡ with_left branch k → k.phase ≡ Open → IsBranchNext rounds k branch → Stands rounds t k c
    → Stands rounds t next c
left_stands {rounds} {t} {k} {c = c} branch same is none stands =
    let o = open_of is stands in
    let next : (root : StorageRoot) × (IsRootOf rounds.known root × NoneBefore rounds.further root (part_after rounds.part k.left) (place_in k.cursor.state) branch) =
    (none.0, (none.1.0, subst (λ (f : Further). NoneBefore f none.0 (part_after rounds.part k.left) (place_in k.cursor.state) branch) o.led.checks none.1.1)) in
    let chain = leave_on rounds.further rounds.part o.led.first k.cursor o.led.runs k.left (left_at branch k) o.led.chain refl in
    subst (λ (x : Checkpoint). Stands rounds t x c) (sym same)
    (inl (record { phase = o.phase; led = record { first = o.led.first; runs = o.led.runs; starts = o.led.starts; checks = o.led.checks; chain = chain; next = next_on rounds.further rounds.known rounds.part k.left (left_at branch k) o.led.next next; looked = o.led.looked }; text = o.text; report = o.report; begins = o.begins; is_whole = o.is_whole; lossless = o.lossless; said = o.said; said_is = o.said_is; earlier = o.earlier }))

-- ---- saying

more_of : (report : Text) (said bytes : ℕ) → bytes ≡ length report → said ≤ bytes → take said report ++ take (bytes - said) (drop said report) ≡ take bytes report
more_of report said bytes long le =
    ap (λ (l : Text). take said report ++ l) (take_all (bytes - said) (drop said report) (omega (arith, length-drop said report, long, le))) ∙ take-append-drop said report ∙ sym (take_all bytes report (omega (arith, long)))

said_now : (t before : Text) (k : Checkpoint) (c : Content) (text : Text) → k.report.bytes ≡ length text → k.said ≤ k.report.bytes → c.report ≡ text → t ≡ before ++ take k.said text → t ++ unsaid k c ≡ before ++ take k.report.bytes text
said_now t before k c text counted le same is =
    ap (λ (l : Text). l ++ unsaid k c) is
    ∙ append_assoc before (take k.said text) (unsaid k c)
    ∙ ap (λ (l : Text). before ++ l) (ap (λ (l : Text). take k.said text ++ take (k.report.bytes - k.said) (drop k.said l)) same ∙ more_of text k.said k.report.bytes counted le)

module _ {rounds : Rounds} {t : Text} {k : Checkpoint} {c : Content} (some : k.said ≡ k.report.bytes → ⊥) (exact : k.phase ≡ Open → length c.report ≡ k.report.bytes) where
  said_stands : Stands rounds t k c → Stands rounds (t ++ unsaid k c) (with_all_said k) c
  said_stands (inl o) =
      let said_is = said_now t (closed_text o.earlier.all) k c o.text (long o.text k.report o.report) o.said (exact_text o (exact o.phase)) o.said_is in
      inl (record { phase = o.phase; led = o.led; text = o.text; report = o.report; begins = o.begins; is_whole = o.is_whole; lossless = o.lossless; said = omega arith; said_is = said_is; earlier = o.earlier })
  said_stands (inr (inl w)) =
      let said_is = said_now t (closed_text w.earlier.all) k c c.report (long c.report k.report w.report) w.said refl w.said_is in
      inr (inl (record { phase = w.phase; led = w.led; ends = w.ends; report = w.report; is_whole = w.is_whole; lossless = w.lossless; said = omega arith; said_is = said_is; earlier = w.earlier }))
  said_stands (inr (inr w)) = absurd (some w.said)

pub said_by : {F : Type 0} {S : state.Ghosts F} {rounds : Rounds} {t : Text} {k next : Checkpoint} {f : F} → next ≡ with_all_said k → (k.said ≡ k.report.bytes → ⊥) → IsReady S rounds t k f → Stands rounds (t ++ unsaid k (S.seen f)) next (S.seen f)
said_by {S = S} {rounds = rounds} {t} {k} {f = f} is some r = subst (λ (x : Checkpoint). Stands rounds (t ++ unsaid k (S.seen f)) x (S.seen f)) (sym is) (said_stands some r.exact r.stands)

-- ---- a report is closed

pub one_more : {rounds : Rounds} {t : Text} {k next : Checkpoint} {a b c : Content} → IsAt k a → k.phase ≡ Closing → IsMoveDone k.cursor.cycle (closes_whole k) a b → IsMoved rounds t k b → IsCheckpointPut next b c → IsOneMore rounds k.cursor.cycle a c
one_more {rounds} {k = k} {a = a} {b} {c} at is done w put = record {
  now = has_in same w.earlier;
  there = ap (λ (l : List Closed). is_closed l k.cursor.cycle) same ∙ w.there;
  before = by done;
}
  where
    same : c.closed ≡ b.closed
    same = ap (λ (x : Content). x.closed) put.put

    by : IsMoveDone k.cursor.cycle (closes_whole k) a b → ((d : Closed) × (c.closed ≡ a.closed ++ d ∷ [])) ⊎ ((c.closed ≡ a.closed) × IsShut k.cursor.cycle a)
    by (inl was) = inr (same ∙ ap (λ (x : Content). x.closed) was.1, record { checkpoint = k; at = at; phase = is; is = refl; closed = was.0 })
    by (inr now) = inl (record { cycle = k.cursor.cycle; whole = closes_whole k; report = a.report }, same ∙ ap (λ (x : Content). x.closed) now.1)
