-- What holds of any nights.
use Rattle.std.proofs.Common.{◌≡◌, ◌≢◌, inl, inr, ⊎_elim, ℕ, ◌+◌, List, [], ◌∷◌, ◌++◌, take, length, Option, Some, None, MatchOption, refl, sym, ◌∙◌, ap, subst, arith, Bool, true, false, not, ◌&&◌, filter}
use Rattle.ocfl_rules.proofs.{PartLaws.{filter_twice}, Lists.{filter_same}}
use Rattle.std.specs.{Prelude.{map}, List.{AllByRecursion}}
use Rattle.ocfl_tree.specs.{Place.{Place, Text}, Ascending.{IsAmong}, StorageRoot.{StorageRoot}}
use Rattle.ocfl_tree.specs.{Store.{Store, failed_openings}, declared.store.Opening.{Opening}}
use Rattle.ocfl_tree.proofs.{Orders.{among_from_filter, among_left, among_right}, Stores.{among_either}}
use Rattle.ocfl_report.specs.Text.{text}
use Rattle.ocfl_rules.specs.{Audit.{Unread, audit}, Parts.{Part, within}, Trail.{is_meta, unread_of}}
use Rattle.ocfl_cursor.specs.Cursor.{Cursor, ended}
use Rattle.ocfl_scrub.specs.{Running.{begun, place_in}, Joining.{PartRun, Ran, AreOneCycle, cursor_after, is_taken, reports_of, unread_by, unread_together}}
use Rattle.ocfl_state.specs.{Checkpoint.{Checkpoint}, Content.{Content, Closed, empty}}
use Rattle.ocfl_state.specs.declared.folder.StateFolder as state
use Rattle.ocfl_state.specs.{Crash.{Begins, Outcomes}, Pieces.{summary_of}, declared.checkpoint_parts.Left.{Left}}
use Rattle.ocfl_night_laws.specs.Around.{AreNext, around}
use Rattle.ocfl_night.specs.Chain.{AreNextIn, NoneBefore, past_branch, RootRun, look_of, AreLooked, joined, EndAt, IsClosedAs, IsReportOf, AreClosed, AreLeft, HasClosed}
use Rattle.ocfl_night.specs.Looks.{Counts, IsOneOf, IsWithin, Known, Look, MayBeGone, Rounds, look_between, of_any, opened_since}
use Rattle.ocfl_night.specs.Sound.{closed_text, Stands, IsNew, IsMarked, IsSoundAt, IsSound, AreSound, IsAt, IsKept}
use Rattle.ocfl_night_laws.specs.Nights.{Night, AreNights, AreOver, AtAnyMoment, AreWhole, HaveReadAll, IsAround, IsAuditBut, IsTaken, IsTidied, AllTaken, known_of, rounds_of}
use Rattle.ocfl_night.proofs.Chains.{ended_cursor, has_none, left_again, left_all, left_among}
use Rattle.ocfl_night_laws.proofs.Around.{wrote_around}
use Rattle.ocfl_night.proofs.Heard.{since_sound}
use Rattle.ocfl_report.specs.declared.further.Further.{Further}

-- ---- closed reports

stands_whole : (rounds : Rounds) (t : Text) (k : Checkpoint) (c : Content) → Stands rounds t k c → AreWhole rounds c.closed
stands_whole rounds t k c (inl o) = ((begun k.cursor).cycle, o.earlier)
stands_whole rounds t k c (inr (inl w)) = (k.cursor.cycle, w.earlier)
stands_whole rounds t k c (inr (inr w)) = (k.cursor.cycle + 1, w.earlier)

found_whole : (rounds : Rounds) (t : Text) (o : Option (List ℕ)) (c : Content) → MatchOption o (IsNew t c) (λ bytes. IsMarked rounds t bytes c) → AreWhole rounds c.closed
found_whole rounds t None c new = (1, has_none new.closed)
found_whole rounds t (Some bytes) c marked = stands_whole rounds t marked.checkpoint c marked.stands

pub sound_whole : (rounds : Rounds) (c : Content) → IsSound rounds c → AreWhole rounds c.closed
sound_whole rounds c sound = found_whole rounds sound.0 c.checkpoint c sound.1

pub empty_sound : (rounds : Rounds) (c : Content) → c ≡ empty → IsSoundAt rounds [] c
empty_sound rounds c is = subst (λ (x : Content). IsSoundAt rounds [] x) (sym is) (record { report = refl; closed = refl; said_is = refl })

-- ---- closed reports that are taken away

module _ (rounds : Rounds) (t : Text) {gone : List ℕ} (goes : (cycle : ℕ) → IsAmong gone cycle → MayBeGone rounds.known cycle) where
  abbrev has_tidied : {next : ℕ} {d c : Content} → IsTidied gone d c → HasClosed rounds next d.closed → HasClosed rounds next c.closed
  has_tidied {d = d} {c} tidied h = record { all = h.all; are = h.are; left = left_again (MayBeGone rounds.known) (IsAmong gone) goes h.all d.closed c.closed h.left tidied.closed }

  -- what stands is as it was
  tidied_stands : (k : Checkpoint) (d c : Content) → IsAt k d → IsTidied gone d c → Stands rounds t k d → Stands rounds t k c
  tidied_stands k d c at tidied (inl o) = inl (record {
    phase = o.phase;
    led = o.led;
    text = o.text;
    report = o.report;
    begins = subst (Begins o.text) (sym tidied.report) o.begins;
    is_whole = o.is_whole;
    lossless = o.lossless;
    said = o.said;
    earlier = has_tidied tidied o.earlier;
    said_is = o.said_is;
  })
  tidied_stands k d c at tidied (inr (inl w)) = inr (inl (record {
    phase = w.phase;
    led = w.led;
    ends = w.ends;
    report = w.report ∙ ap summary_of (sym tidied.report);
    is_whole = λ whole. tidied.report ∙ w.is_whole whole;
    lossless = w.lossless;
    said = w.said;
    earlier = has_tidied tidied w.earlier;
    said_is = w.said_is ∙ ap (λ (l : Text). closed_text w.earlier.all ++ take k.said l) (sym tidied.report);
  }))
  tidied_stands k d c at tidied (inr (inr w)) = inr (inr (record {
    phase = w.phase;
    ends = w.ends;
    checks = w.checks;
    empty = tidied.report ∙ w.empty;
    there = tidied.stays k at w.phase w.there;
    said = w.said;
    earlier = has_tidied tidied w.earlier;
    said_is = w.said_is;
  }))

  tidied_new : (d c : Content) → IsTidied gone d c → IsNew t d → IsNew t c
  tidied_new d c tidied new = record {
    report = tidied.report ∙ new.report;
    closed = subst (λ (l : List Closed). AreLeft (IsAmong gone) l c.closed) new.closed tidied.closed;
    said_is = new.said_is;
  }

  tidied_as : (o : Option (List ℕ)) (d c : Content) → d.checkpoint ≡ o → IsTidied gone d c → MatchOption o (IsNew t d) (λ bytes. IsMarked rounds t bytes d) → MatchOption o (IsNew t c) (λ bytes. IsMarked rounds t bytes c)
  tidied_as None d c is tidied new = tidied_new d c tidied new
  tidied_as (Some bytes) d c is tidied m = record {
    checkpoint = m.checkpoint;
    is = m.is;
    stands = tidied_stands m.checkpoint d c (record { bytes = bytes; is = is; text = m.is }) tidied m.stands;
  }

  -- so what is left is sound, and has told the same
  pub tidied_sound : (d c : Content) → IsTidied gone d c → IsSoundAt rounds t d → IsSoundAt rounds t c
  tidied_sound d c tidied sound = subst (λ (o : Option (List ℕ)). MatchOption o (IsNew t c) (λ bytes. IsMarked rounds t bytes c)) (sym tidied.checkpoint) (tidied_as d.checkpoint d c refl tidied sound)

-- nothing is taken away
pub untidied : (c : Content) → IsTidied [] c c
untidied c = record { checkpoint = refl; report = refl; closed = left_all (IsAmong []) c.closed; stays = λ k at is there. there }

-- ---- what is known of nights

same_look : (l : Look) → IsWithin l l
same_look l = record { root = refl; unread = λ e is. is }

module _ {F : Type 0} where
  abbrev IsIn : Option Known → Night F → Type 0
  IsIn known n = IsOneOf known n.look × ((cycle : ℕ) → IsAmong n.gone cycle → MayBeGone known cycle)

  -- each night's look is one that is known, and so is what was taken away before it
  abbrev AreIn : Option Known → List (Night F) → Type 0
  AreIn known nights = AllByRecursion (IsIn known) nights

  wider : (m : Night F) (known : Known) (nights : List (Night F)) → AreIn (Some known) nights → AreIn (Some (record { looks = m.look ∷ known.looks; gone = m.gone ++ known.gone })) nights
  wider m known [] all = tt
  wider m known (n ∷ nights) all = (((all.0.0.0, (inr all.0.0.1.0, all.0.0.1.1)), λ cycle is. among_right m.gone known.gone cycle (all.0.1 cycle is)), wider m known nights all.1)

  pub are_in : (nights : List (Night F)) → AreIn (Some (known_of nights)) nights
  are_in [] = tt
  are_in (n ∷ nights) = (((n.look, (inl refl, same_look n.look)), λ cycle is. among_left n.gone (known_of nights).gone cycle is), wider n (known_of nights) nights (are_in nights))

-- ---- any nights

module _ {F : Type 0} (S : state.Ghosts F) (further : Further) (part : Part) where
  module _ (known : Option Known) where
    abbrev rounds : Rounds
    rounds = record { part = part; further = further; known = known }

    pub all_sound : (outcomes : Outcomes) (nights : List (Night F)) → AreIn known nights → AreSound rounds outcomes → AreNights S further part outcomes nights
        → AtAnyMoment S (IsSound rounds) nights
    all_sound outcomes [] given sound are = tt
    all_sound outcomes (n ∷ nights) given sound are =
        let kept : AreSound rounds (S.may_leave n.began) = λ c left. let x = are.0 c left in let was = sound x.0 x.1 in (was.0, tidied_sound rounds was.0 given.0.1 x.0 c x.2 was.1) in
        let all = are.1 known given.0.0 kept in
        let each : (c : Content) → S.left_since n.ended (S.moment n.began) c → IsSound rounds c = λ c left. since_sound (all.each c left) in
        (each, all_sound (S.left_since n.ended (S.moment n.began)) nights given.1 each are.2)

  pub all_taken : (outcomes : Outcomes) (earlier nights : List (Night F)) → ((c : Content) → outcomes c → (t : Text) × (IsSoundAt (of_any further part) t c × IsTaken earlier t))
      → AreNights S further part outcomes nights → AllTaken S (of_any further part) earlier nights
  all_taken outcomes earlier [] taken are = tt
  all_taken outcomes earlier (n ∷ nights) taken are =
      let kept : IsKept S (of_any further part) n.began = λ c left. let x = are.0 c left in let was = taken x.0 x.1 in (was.0, tidied_sound (of_any further part) was.0 (λ cycle is. tt) x.0 c x.2 was.1.0) in
      let all = are.1 None tt kept in
      let now : (c : Content) → S.left_since n.ended (S.moment n.began) c → (t : Text) × (IsSoundAt (of_any further part) t c × IsTaken (n ∷ earlier) t) = λ c left.
      let h = all.each c left in
      let x = are.0 h.from h.was in
      let was = taken x.0 x.1 in
      (was.0 ++ h.heard.more, (h.heard.sound, (was.0, (h.heard.more, (refl, (h.heard.took, was.1.1)))))) in
      (now, all_taken (S.left_since n.ended (S.moment n.began)) (n ∷ earlier) nights now are.2)

-- what holds of the contents holds at any moment
pub at_any : {F : Type 0} (S : state.Ghosts F) {P Q : Content → Type 0} (nights : List (Night F)) → ((c : Content) → P c → Q c) → AtAnyMoment S P nights → AtAnyMoment S Q nights
at_any S [] more all = tt
at_any S (n ∷ nights) more all = ((λ c left. more c (all.0 c left)), at_any S nights more all.1)

-- ---- of one storage root

pub one_cycle : (further : Further) (root : StorageRoot) (part : Part) (c d : Cursor) (runs : List RootRun) → AllByRecursion (λ r. r.root ≡ root) runs → EndAt further part c runs d
    → AreOneCycle further root part c (map (λ r. r.run) runs) × ((cursor_after c (map (λ r. r.run) runs)).state ≡ ended)
one_cycle further root part c d [] all end = absurd end
one_cycle further root part c d (r ∷ []) all end =
    let made : Ran further root part c r.run = subst (λ (x : StorageRoot). Ran further x part c r.run) all.0 end.0 in
    (made, (ended_cursor further root part c r.run made end.1).0)
one_cycle further root part c d (r ∷ q ∷ runs) all end =
    let made : Ran further root part c r.run = subst (λ (x : StorageRoot). Ran further x part c r.run) all.0 end.0 in
    let rest = one_cycle further root part r.run.ran.cursor d (q ∷ runs) all.1 end.2 in
    ((made, (end.1, rest.0)), rest.1)

pub joined_reports : (runs : List RootRun) → joined runs ≡ reports_of (map (λ r. r.run) runs)
joined_reports [] = refl
joined_reports (r ∷ runs) = ap (λ (l : Text). r.run.report ++ l) (joined_reports runs)

-- ---- which storage root

module _ (rounds : Rounds) where
  closed_among : (n next : ℕ) (closed : List Closed) → AreClosed rounds n closed next → (d : Closed) → IsAmong closed d → IsClosedAs rounds d
  closed_among n next [] are d among = absurd among
  closed_among n next (x ∷ closed) are d (inl same) = subst (IsClosedAs rounds) (sym same) are.1
  closed_among n next (x ∷ closed) are d (inr among) = closed_among (n + 1) next closed are.2 d among

  pub closed_as : (c : Content) → IsSound rounds c → (d : Closed) → IsAmong c.closed d → IsClosedAs rounds d
  closed_as c sound d among =
      let all = sound_whole rounds c sound in
      closed_among 1 all.0 all.1.all all.1.are d (left_among (MayBeGone rounds.known) all.1.all c.closed all.1.left d among)

among_map : {A B : Type 0} (P : B → Type 0) (f : A → B) (xs : List A) → AllByRecursion (λ x. P (f x)) xs → (y : B) → IsAmong (map f xs) y → P y
among_map P f [] all y among = absurd among
among_map P f (x ∷ xs) all y (inl same) = subst P (sym same) all.0
among_map P f (x ∷ xs) all y (inr among) = among_map P f xs all.1 y among

module _ (further : Further) (root : StorageRoot) (known : Known) where
  -- runs within looks at one root were over it
  pub over_one : ((l : Look) → IsAmong known.looks l → l.root ≡ root) → (runs : List RootRun) → AreLooked further (Some known) runs → AllByRecursion (λ r. r.root ≡ root) runs
  over_one one [] looked = tt
  over_one one (r ∷ runs) looked = (looked.0.1.1.root ∙ one looked.0.0 looked.0.1.0, over_one one runs looked.1)

  -- and branches were left out over it
  pub next_over : ((l : Look) → IsAmong known.looks l → l.root ≡ root) → (part : Part) (left : List Left) → AreNextIn further (Some known) part left → AreNext further root part left
  next_over one part [] all = tt
  next_over one part (l ∷ left) all =
      let same : all.0.0 ≡ root = sym all.0.1.0.1.1 ∙ one all.0.1.0.0 all.0.1.0.1.0 in
      (subst (λ (x : StorageRoot). NoneBefore further x part l.after l.place) same all.0.1.1, next_over one (past_branch part l) left all.1)

  abbrev CouldNot : Place × ℕ → Type 0
  CouldNot e = (l : Look) × (IsAmong known.looks l × IsAmong l.unread e)

  among_filter : (keeps : Place × ℕ → Bool) (u : Unread) (e : Place × ℕ) → IsAmong (filter keeps u) e → IsAmong u e
  among_filter keeps u e is = (among_from_filter keeps u e is).0

  unread_among : (r : RootRun) → r.root ≡ root → IsOneOf (Some known) (look_of further r) → (e : Place × ℕ) → IsAmong (unread_by further root r.run) e → CouldNot e
  unread_among r over one e is =
      let opened : IsAmong (unread_of further r.root r.run.opened) e = subst (λ (x : StorageRoot). IsAmong (unread_of further x r.run.opened) e) (sym over) (among_filter (λ x. is_taken r.run.ran.cursor.state x.0) (unread_of further root r.run.opened) e is) in
      (one.0, (one.1.0, one.1.1.unread e opened))

  -- what they could not read, one of the looks could not
  pub unread_each : (runs : List RootRun) → AllByRecursion (λ r. r.root ≡ root) runs → AreLooked further (Some known) runs → (e : Place × ℕ) → IsAmong (unread_together further root (map (λ r. r.run) runs)) e → CouldNot e
  unread_each [] over looked e is = absurd is
  unread_each (r ∷ runs) over looked e is =
      ⊎_elim (λ first. unread_among r over.0 looked.0 e first) (λ later. unread_each runs over.1 looked.1 e later) (among_either (unread_by further root r.run) (unread_together further root (map (λ r. r.run) runs)) e is)

none_among : (u : Unread) → ((e : Place × ℕ) → IsAmong u e → ⊥) → u ≡ []
none_among [] without = refl
none_among (e ∷ u) without = absurd (without e (inl refl))

module _ {F : Type 0} (further : Further) (root : StorageRoot) (nights : List (Night F)) (over : AreOver root nights) where
  abbrev known : Known
  known = known_of nights

  pub looks_over : (l : Look) → IsAmong known.looks l → l.root ≡ root
  looks_over = among_map (λ (l : Look). l.root ≡ root) (λ n. n.look) nights over

  read_none : HaveReadAll nights → (e : Place × ℕ) → CouldNot further root known e → ⊥
  read_none read e could =
      let all : could.0.unread ≡ [] = among_map (λ (l : Look). l.unread ≡ []) (λ n. n.look) nights read could.0 could.1.0 in
      subst (λ (u : Unread). IsAmong u e) all could.1.1

  module _ (join : (further : Further) (root : StorageRoot) (part : Part) (c : Cursor) (runs : List PartRun) → place_in c.state ≡ None → AreOneCycle further root part c runs → (cursor_after c runs).state ≡ ended → reports_of runs ≡ text (within part (audit further root (unread_together further root runs)))) (part : Part) where
    module _ (d : Closed) (w : IsReportOf (rounds_of further part nights) [] d) where
      one_root : AllByRecursion (λ r. r.root ≡ root) w.led.runs
      one_root = over_one further root known looks_over w.led.runs w.led.looked

      audited : d.report ≡ text (within part (audit further root (unread_together further root (map (λ r. r.run) w.led.runs))))
      audited =
          let one = one_cycle further root part w.led.first w.last w.led.runs one_root w.led.chain in
          w.report ∙ joined_reports w.led.runs ∙ join further root part w.led.first (map (λ r. r.run) w.led.runs) w.led.starts one.0 one.1

      pub is_audit_but : IsAuditBut further root part known.looks d.report
      is_audit_but = record {
        unread = unread_together further root (map (λ r. r.run) w.led.runs);
        is = audited;
        each = unread_each further root known w.led.runs one_root w.led.looked;
      }

      pub is_audit : HaveReadAll nights → d.report ≡ text (within part (audit further root []))
      is_audit read =
          audited ∙ ap (λ (u : Unread). text (within part (audit further root u))) (none_among (unread_together further root (map (λ r. r.run) w.led.runs)) (λ e is. read_none read e (unread_each further root known w.led.runs one_root w.led.looked e is)))

    -- ---- around what was left out

    -- a closed report that is not called whole
    pub is_around : HaveReadAll nights → (d : Closed) → (left : List Left) × ((left ≢ []) × IsReportOf (rounds_of further part nights) left d) → IsAround further root part d.report
    is_around read d (left, (some, w)) = record {
      left = left;
      some = some;
      next = next_over further root known looks_over part left w.led.next;
      is =
          w.report
          ∙ wrote_around further root part w.led.first w.last w.led.runs left w.led.chain (over_one further root known looks_over w.led.runs w.led.looked) (read_runs w.led.runs (over_one further root known looks_over w.led.runs w.led.looked) w.led.looked)
          ∙ ap (λ (from : Option Place). text (around part from left (audit further root []))) w.led.starts;
    }
      where
        read_run : (r : RootRun) → r.root ≡ root → IsOneOf (Some known) (look_of further r) → unread_of further root r.run.opened ≡ []
        read_run r over one =
            none_among (unread_of further root r.run.opened) (λ e is. read_none read e (one.0, (one.1.0, one.1.1.unread e (subst (λ (x : StorageRoot). IsAmong (unread_of further x r.run.opened) e) (sym over) is))))

        read_runs : (runs : List RootRun) → AllByRecursion (λ r. r.root ≡ root) runs → AreLooked further (Some known) runs → AllByRecursion (λ r. unread_of further root r.run.opened ≡ []) runs
        read_runs [] over looked = tt
        read_runs (r ∷ runs) over looked = (read_run r over.0 looked.0, read_runs runs over.1 looked.1)

-- ---- a store in which nothing failed

both_ways : (a b : Bool) → (a && b) ≡ (b && a)
both_ways true true = refl
both_ways true false = refl
both_ways false true = refl
both_ways false false = refl

filters_turn : (f g : Opening → Bool) (os : List Opening) → filter f (filter g os) ≡ filter g (filter f os)
filters_turn f g os = filter_twice f g os ∙ filter_same _ _ (λ o. both_ways (g o) (f o)) os ∙ sym (filter_twice g f os)

nothing_there : (os : List Opening) → length os ≡ 0 → os ≡ []
nothing_there [] is = refl
nothing_there (o ∷ os) is = absurd (omega (arith, is))

no_unread : (further : Further) (root : StorageRoot) (os : List Opening) → failed_openings os ≡ 0 → unread_of further root os ≡ []
no_unread further root os none =
    let failed : Opening → Bool = λ o. o.failed in
    let content : Opening → Bool = λ o. not (is_meta further root o.place) in
    ap (map (λ (o : Opening). (o.place, o.given))) (filters_turn failed content os ∙ ap (filter content) (nothing_there (filter failed os) none))

pub all_read : (further : Further) (root : StorageRoot) (s t : Store) → Counts s t → t.failures ≡ s.failures → (look_between further root s t).unread ≡ []
all_read further root s t counts same = no_unread further root (opened_since s t) (omega (arith, counts.failures, same))
