-- Why the steps of a night stop.
use Rattle.std.proofs.Common.{◌≡◌, ◌≢◌, ◌⊎◌, ◌≤◌, ◌<◌, ◌+◌, ◌-◌, ◌^◌, ◌++◌, ◌∷◌, [], inl, inr, ⊎_elim, ℕ, List, Option, Some, None, Result, Ok, Err, Bool, true, false, arith, ap, refl, sym, ◌∙◌, subst, map, length, length-append, min, zero, suc, Vec, Global}
use Rattle.std.proofs.lemmas.List.{append-nil}
use Rattle.std.proofs.lemmas.List.Elements.{All-head, All-tail}
use Rattle.std.specs.Prelude.{IsTrue, All, slice_get, if◌then◌else◌, ⊤}
use Rattle.ocfl_tree.specs.Place.{Place, Text}
use Rattle.ocfl_cursor.specs.{Cursor.{Cursor, State, start, behind, ended}, declared.limits.Limits.{Limits}}
use Rattle.ocfl_scrub.specs.Running.{IsWorn, IsWornIn, begun, begun_in}
use Rattle.ocfl_state.specs.{Checkpoint.{Checkpoint}, Content.{Content, with_report}}
use Rattle.ocfl_state.specs.declared.checkpoint_parts.ReportMark.{ReportMark}
use Rattle.ocfl_state.specs.{Pieces.{summary_of}, declared.checkpoint_parts.Left.{Left}}
use Rattle.ocfl_state.specs.declared.checkpoint_parts.{Phase.{Phase}, Phase.TheVariants.{Open, Closing}}
use Rattle.ocfl_state.specs.declared.folder.FolderTrouble.TheVariants.{Failed, Full, Taken, Memory}
use Rattle.ocfl_report.specs.declared.further.Further.{Further}
use Rattle.ocfl_night.specs.{Beginning.{BeginsAt}, Done.{Done}, Ending.{IsSlice, cycle_in, cycle_of, ended_by, place_or_pause, unbegun_by}, Leaving.{LeadsOn, done_by, end_of, has_end, remedy_at}}
use Rattle.ocfl_terms.specs.Counting.{counted}
use Rattle.ocfl_night.specs.{Chain.{past}, Looks.{Rounds}, Site.{IsAlike}, Sound.{Stands}, Steps.{IsNext, begun_anew, with_all_said}}
use Rattle.ocfl_terms.specs.Output.{HasFailed, Said}
use Rattle.ocfl_scrub.specs.declared.running.RunEnd.{RunEnd}
use Rattle.ocfl_night.specs.Runs.{StopsOpen, Turn, after_end, after_made, turn_of}
use Rattle.ocfl_identity.specs.declared.identity.Identity.{Identity}
use Rattle.ocfl_terms.specs.{declared.plan.Halt.{Halt}, declared.made.Made.{Made}, declared.stop.Stop.{Stop}}
use Rattle.ocfl_night.specs.{declared.pause.Pause.{Pause}, declared.not_opened.NotOpened.{NotOpened}, declared.site.Site.{Site}, declared.tally.Remedy.{Remedy}}
use Rattle.ocfl_night.specs.declared.not_opened.NotOpened.TheVariants as unopened
use Rattle.ocfl_terms.specs.declared.plan.Halt.TheVariants as halt
use Rattle.ocfl_night.specs.declared.tally.Remedy.TheVariants as remedy
use Rattle.ocfl_terms.specs.declared.stop.Stop.TheVariants.{Folder, TooLong, Unread, Worn, Endless, Unsaid, Oversaid, Short, Output}
use Rattle.ocfl_night.specs.Stopping.{Course, ForClose, ForFirst, IsFirst, ForKeep, ForNight, ForOpen, ForPut, ForRuns, ForSay, ForSlice, ForSpeak, IsEndless, IsPassedBy, IsPutFrom, IsPutIn, IsReadStop, IsReason, IsRunBy, IsTooLong, IsWornAfter, OpensFor, StopsFor, course}
use Rattle.ocfl_night.proofs.{Beginnings.{cycle_next, made_in}, Foreigners.{alike_as, alike_on, alike_self, made_alike, next_alike}, Runs.{stops_open}, Sound.{long}}

-- ---- what `?` returns

pub stops_at : (Told : Type 0) (Other : Type 0 → Stop → Type 0) (old new : ℕ) {T : Type 0} (r : Result T Stop) (why : Stop) → r ≡ Err why → IsReason Told Other old new why → StopsFor Told Other old new r
stops_at Told Other old new {T} r why is reason = subst (λ (x : Result T Stop). StopsFor Told Other old new x) (sym is) reason

pub opens_at : (Told : Type 0) (Other : Type 0 → Stop → Type 0) (old new : ℕ) {T : Type 0} (r : Result T NotOpened) (why : Stop) → r ≡ Err (unopened.Troubled why) → IsReason Told Other old new why → OpensFor Told Other old new r
opens_at Told Other old new {T} r why is reason = subst (λ (x : Result T NotOpened). OpensFor Told Other old new x) (sym is) reason

-- what a call answers
pub stops_over : {One Two : Type 0} (For Then : Type 0 → Stop → Type 0) (old mid new : ℕ) {T : Type 0} (r : Result T Stop) → (Two → One) → (Two → old ≤ mid) → ((why : Stop) → IsReason One For mid new why → IsReason Two Then old new why) → StopsFor One For mid new r → StopsFor Two Then old new r
stops_over For Then old mid new (Ok x) given before by stops = λ two. let a = before two in let b = stops (given two) in omega arith
stops_over For Then old mid new (Err why) given before by stops = by why stops

pub opens_over : {One Two : Type 0} (For Then : Type 0 → Stop → Type 0) (old mid new : ℕ) {T : Type 0} (r : Result T NotOpened) → (Two → One) → (Two → old ≤ mid) → ((why : Stop) → IsReason One For mid new why → IsReason Two Then old new why) → OpensFor One For mid new r → OpensFor Two Then old new r
opens_over For Then old mid new (Ok x) given before by opens = λ two. let a = before two in let b = opens (given two) in omega arith
opens_over For Then old mid new (Err (unopened.Refused x)) given before by opens = tt
opens_over For Then old mid new (Err (unopened.Troubled why)) given before by opens = by why opens

-- and what `?` returns of it
pub opens_so : (One Two : Type 0) (For Then : Type 0 → Stop → Type 0) (old mid new : ℕ) {T : Type 0} (U : Type 0) (r : Result T NotOpened) (w : NotOpened) → r ≡ Err w → ((why : Stop) → IsReason One For mid new why → IsReason Two Then old new why) → OpensFor {T = U} One For mid new (Err w) → OpensFor Two Then old new r
opens_so One Two For Then old mid new {T} U r w is by opens = subst (λ (x : Result T NotOpened). OpensFor Two Then old new x) (sym is) (of w opens)
  where
    of : (x : NotOpened) → OpensFor {T = U} One For mid new (Err x) → OpensFor {T = T} Two Then old new (Err x)
    of (unopened.Refused x) o = tt
    of (unopened.Troubled why) o = by why o

-- of bytes that are not read as a checkpoint
pub unread_at : (Told : Type 0) (Other : Type 0 → Stop → Type 0) (old new : ℕ) {T : Type 0} (r : Result T NotOpened) (why : NotOpened) → r ≡ Err why → IsReadStop why → OpensFor Told Other old new r
unread_at Told Other old new {T} r why is read = subst (λ (x : Result T NotOpened). OpensFor Told Other old new x) (sym is) (by why read)
  where
    by : (w : NotOpened) → IsReadStop w → OpensFor {T = T} Told Other old new (Err w)
    by (unopened.Refused x) read = tt
    by (unopened.Troubled (Folder Failed)) read = absurd read
    by (unopened.Troubled (Folder Full)) read = absurd read
    by (unopened.Troubled (Folder Taken)) read = absurd read
    by (unopened.Troubled (Folder Memory)) read = tt
    by (unopened.Troubled (TooLong text)) read = absurd read
    by (unopened.Troubled (Unread p)) read = absurd read
    by (unopened.Troubled Worn) read = absurd read
    by (unopened.Troubled Endless) read = absurd read
    by (unopened.Troubled Unsaid) read = absurd read
    by (unopened.Troubled Oversaid) read = absurd read
    by (unopened.Troubled Short) read = absurd read
    by (unopened.Troubled Output) read = absurd read

-- ---- of several

-- a stop that is not of the folder
abbrev pub IsElse : Stop → Type 0
IsElse (Folder why) = ⊥
IsElse why = ⊤

module _ {One Two : Type 0} (For Then : Type 0 → Stop → Type 0) (old mid new : ℕ) (given : Two → One) (before : Two → old ≤ mid) where
  pub reason_on : (why : Stop) → (Two → For One (Folder Failed) → Then Two (Folder Failed)) → (IsElse why → For One why → Then Two why) → IsReason One For mid new why → IsReason Two Then old new why
  reason_on (Folder Failed) failed other is = λ told. let a = before told in ⊎_elim (λ rose. inl (omega arith)) (λ more. inr (failed told more)) (is (given told))
  reason_on (Folder Full) failed other is = λ told. let a = before told in let b = is (given told) in omega arith
  reason_on (Folder Taken) failed other is = λ told. is (given told)
  reason_on (Folder Memory) failed other is = tt
  reason_on (TooLong text) failed other is = other tt is
  reason_on (Unread p) failed other is = other tt is
  reason_on Worn failed other is = other tt is
  reason_on Endless failed other is = other tt is
  reason_on Unsaid failed other is = other tt is
  reason_on Oversaid failed other is = other tt is
  reason_on Short failed other is = other tt is
  reason_on Output failed other is = other tt is

-- a text that is too long, of others of these checkpoints
pub too_long : {One Two : Checkpoint → Type 0} {text : Text} → ((k : Checkpoint) → One k → Two k) → IsTooLong One text → IsTooLong Two text
too_long wider is = record { checkpoint = is.checkpoint; one = wider is.checkpoint is.one; is = is.is; long = is.long }

-- ---- of a folder that is ready

module _ {rounds : Rounds} {t : Text} {k : Checkpoint} {c : Content} where
  pub said_within : Stands rounds t k c → k.said ≤ k.report.bytes
  said_within (inl o) = o.said
  said_within (inr (inl w)) = w.said
  said_within (inr (inr w)) = let is = w.said in omega arith

  pub never_oversaid : Stands rounds t k c → k.report.bytes < k.said → ⊥
  never_oversaid stands over = let le = said_within stands in omega arith

  -- what a checkpoint did not say is there
  pub never_short : Stands rounds t k c → (k.said < k.report.bytes) × (length c.report < k.report.bytes) → ⊥
  never_short (inl o) short =
      let a : k.report.bytes ≡ length o.text = long o.text k.report o.report in
      let b : length c.report ≡ length o.text + length o.begins.0 = ap length o.begins.1 ∙ length-append o.text o.begins.0 in
      let s = short.1 in
      omega arith
  never_short (inr (inl w)) short =
      let a : k.report.bytes ≡ length c.report = long c.report k.report w.report in
      let s = short.1 in
      omega arith
  never_short (inr (inr w)) short = let a = w.said in let s = short.0 in omega arith

-- an output that failed after a moment failed since an earlier one
pub failed_since : {old mid new : ℕ} → old ≤ mid → HasFailed mid new → HasFailed old new
failed_since {old} {mid} {new} le h = record { later = let a = h.later in omega arith; more = λ same. h.more (let a = h.later in omega arith) }

-- ---- of branches that were left out

ends_after : (had named : List Place) → All (λ b. IsTrue (has_end b)) (had ++ named) → All (λ b. IsTrue (has_end b)) named
ends_after [] named all = all
ends_after (p ∷ had) named all = ends_after had named (All-tail (λ b. IsTrue (has_end b)) p (had ++ named) all)

endless_in : (a : List Left) (m : Left) (more : List Left) → IsEndless (a ++ m ∷ more) → IsEndless (m ∷ more)
endless_in [] m more is = is
endless_in (x ∷ []) m more is = is
endless_in (x ∷ y ∷ a) m more is = endless_in (y ∷ a) m more is

not_endless : (left : List Left) → All (λ b. IsTrue (has_end b)) (map (λ l. l.place) left) → IsEndless left → ⊥
not_endless [] all is = is
not_endless (l ∷ []) all is = let ends = All-head (λ b. IsTrue (has_end b)) l.place [] all in cc (ends, is)
not_endless (l ∷ m ∷ left) all is = not_endless (m ∷ left) (All-tail (λ b. IsTrue (has_end b)) l.place (m.place ∷ map (λ x. x.place) left) all) is

-- the last one has no end, and those that were left out meanwhile have: it was left out before
pub endless_before : {k l : Checkpoint} {had has : List Place} → LeadsOn k had l has → All (λ b. IsTrue (has_end b)) has → IsEndless l.left → IsEndless k.left
endless_before {k} {l} {had} {has} h all is = by h.more h.left h.named
  where
    by : (more : List Left) → l.left ≡ k.left ++ more → has ≡ had ++ map (λ x. x.place) more → IsEndless k.left
    by [] left named = subst IsEndless (left ∙ append-nil k.left) is
    by (m ∷ more) left named =
        absurd (not_endless (m ∷ more) (ends_after had _ (subst (All (λ b. IsTrue (has_end b))) named all)) (endless_in k.left m more (subst IsEndless left is)))

-- ---- of runs that are counted

-- by a night that began there and has begun so many runs, the cursor counts no more than those
abbrev pub IsCounted : Checkpoint → Checkpoint → ℕ → Type 0
IsCounted first k n = (m : ℕ) × ((min m (2 ^ 64 - 1) ≤ n) × (k.cursor.runs ≤ first.cursor.runs + m))

pub none_counted : (k : Checkpoint) (n : ℕ) → IsCounted k k n
none_counted k n = (0, (omega arith, omega arith))

begun_runs : (c : Cursor) (s : State) → (begun_in c s).runs ≤ c.runs
begun_runs c start = omega arith
begun_runs c (behind p) = omega arith
begun_runs c ended = omega arith

made_counted : {k : Checkpoint} {limits : Limits} {made : Made} → IsSlice k limits made → made.checkpoint.cursor.runs ≤ k.cursor.runs + 1
made_counted {k} {made = made} (inl un) = let e : made.checkpoint.cursor.runs ≡ k.cursor.runs = ap (λ (x : Checkpoint). x.cursor.runs) un.checkpoint in omega arith
made_counted {k} {made = made} (inr r) =
    let e : made.checkpoint.cursor.runs ≡ (begun k.cursor).runs + 1 = ap (λ (x : Cursor). x.runs) (r.1.2.1.cursor_is ∙ r.1.0.cursor) in
    let b = begun_runs k.cursor k.cursor.state in
    omega arith

done_cursor : (p : Place) (k : Checkpoint) (done : Remedy) → (done_by k p done).0.cursor ≡ k.cursor
done_cursor p k remedy.TryAgain = refl
done_cursor p k (remedy.LeaveOut branch) = refl
done_cursor p k remedy.Halt = refl

after_cursor : (strict : Bool) (d : Done) (k : Checkpoint) (at : Result Place (Option Pause)) → (after_end strict d k at).checkpoint.cursor ≡ k.cursor
after_cursor strict d k (Ok p) = done_cursor p k (remedy_at strict d p)
after_cursor strict d k (Err why) = refl

-- one run more
pub counted_on : (strict : Bool) (d e : Done) (first : Checkpoint) {k : Checkpoint} {limits : Limits} {made : Made} {n m : ℕ} (next : Checkpoint × Option Pause) → k.phase ≡ Open → IsSlice k limits made → (StopsOpen made → turn_of e next ≡ after_made strict d made)
    → IsCounted first k n → m ≡ counted n 1 → IsCounted first next.0 m
counted_on strict d e first {k} {made = made} {n} {m} next going is led (so_far, (few, le)) one =
    let same : next.0.cursor ≡ made.checkpoint.cursor = ap (λ (x : Turn). x.checkpoint.cursor) (led (stops_open going is)) ∙ after_cursor strict d made.checkpoint (place_or_pause made.end) in
    let runs : next.0.cursor.runs ≡ made.checkpoint.cursor.runs = ap (λ (x : Cursor). x.runs) same in
    let more = made_counted is in
    (so_far + 1, (omega arith, omega arith))

-- a run that cannot be counted
pub worn_after : (first k : Checkpoint) {n m : ℕ} → k.phase ≡ Open → cycle_of k ≡ cycle_of first → IsCounted first k n → min n (2 ^ 64 - 1) ≤ m → IsWorn k.cursor → IsWornAfter first m
worn_after first k {n} {m} going same (so_far, (few, le)) more worn = by k.cursor.state refl worn
  where
    by : (s : State) → k.cursor.state ≡ s → IsWornIn k.cursor s → IsWornAfter first m
    by start is worn = inr (omega (arith, few, le, more, worn))
    by (behind p) is worn = inr (omega (arith, few, le, more, worn))
    by ended is worn =
        let cycle : cycle_of k ≡ k.cursor.cycle + 1 = subst (λ (s : State). cycle_of k ≡ (begun_in k.cursor s).cycle) is (ap (λ (p : Phase). cycle_in p k.cursor) going) in
        inl (sym same ∙ cycle ∙ worn)

-- nor one after as many as can be
pub worn_out : (first : Checkpoint) (n : ℕ) → 2 ^ 64 - 1 ≤ n → IsWornAfter first n
worn_out first n many = inr (omega (arith, many))

-- ---- which checkpoint is put

-- the one with which a night begins, and once all is said
pub put_first : (k : Checkpoint) → IsPutFrom k k
put_first k = record { alike = alike_self k; cycle = inl refl }

pub put_self : (k : Checkpoint) {l : Checkpoint} → l ≡ with_all_said k → IsPutFrom k l
put_self k same = record { alike = alike_as k same (record { root = refl; names = refl; part = refl; checks = refl }); cycle = inl (ap cycle_of same) }

pub put_on : {first k l : Checkpoint} → IsAlike first k → cycle_of k ≡ cycle_of first → IsPutFrom k l → IsPutFrom first l
put_on {first} {k} {l} alike same put = record { alike = alike_on alike put.alike; cycle = by put.cycle }
  where
    by : (cycle_of l ≡ cycle_of k) ⊎ (cycle_of l ≡ cycle_of k + 1) → (cycle_of l ≡ cycle_of first) ⊎ (cycle_of l ≡ cycle_of first + 1)
    by (inl is) = inl (is ∙ same)
    by (inr is) = inr (is ∙ ap (λ (n : ℕ). n + 1) same)

-- after a run
pub put_run : {k l : Checkpoint} {limits : Limits} → k.phase ≡ Open → IsRunBy k limits l → IsPutFrom k l
put_run going r = record { alike = next_alike r.1.0 r.1.1; cycle = inl (cycle_next going r.1.0 r.1.1.1) }

-- after a slice that stopped at a place
pub put_passed : {k l : Checkpoint} {limits : Limits} {made : Made} → k.phase ≡ Open → IsSlice k limits made → IsPassedBy made l → IsPutFrom k l
put_passed {made = made} going is passed =
    let same = passed.1.1 in
    put_on (made_alike is) (made_in going is)
    (record { alike = alike_as made.checkpoint same (record { root = refl; names = refl; part = refl; checks = refl }); cycle = inl (ap cycle_of same) })

-- it tells no more than its report has if that of the slice does not
pub passed_within : {l : Checkpoint} (made : Made) → made.checkpoint.said ≤ made.checkpoint.report.bytes → IsPassedBy made l → l.said ≤ l.report.bytes
passed_within made within passed = subst (λ (x : Checkpoint). x.said ≤ x.report.bytes) (sym passed.1.1) within

-- after the report is closed
next_cycle : (k : Checkpoint) (s : State) → ((begun_in k.cursor s).cycle ≡ k.cursor.cycle) ⊎ ((begun_in k.cursor s).cycle ≡ k.cursor.cycle + 1)
next_cycle k start = inl refl
next_cycle k (behind p) = inl refl
next_cycle k ended = inr refl

pub put_anew : (k : Checkpoint) {l : Checkpoint} → l ≡ begun_anew k → IsPutFrom k l
put_anew k {l} same = record {
  alike = alike_as k same (record { root = refl; names = refl; part = refl; checks = refl });
  cycle = by k.phase refl (next_cycle k k.cursor.state);
}
  where
    now : cycle_of l ≡ (begun k.cursor).cycle
    now = ap cycle_of same

    was : {p : Phase} → k.phase ≡ p → cycle_of k ≡ cycle_in p k.cursor
    was is = ap (λ (p : Phase). cycle_in p k.cursor) is

    by : (p : Phase) → k.phase ≡ p → ((begun k.cursor).cycle ≡ k.cursor.cycle) ⊎ ((begun k.cursor).cycle ≡ k.cursor.cycle + 1) → (cycle_of l ≡ cycle_of k) ⊎ (cycle_of l ≡ cycle_of k + 1)
    by Open is either = inl (now ∙ sym (was is))
    by Closing is (inl same) = inl (now ∙ same ∙ sym (was is))
    by Closing is (inr more) = inr (now ∙ more ∙ ap (λ (n : ℕ). n + 1) (sym (was is)))

-- once all of it is said
pub put_closed : (k : Checkpoint) {said l : Checkpoint} → said ≡ with_all_said k → l ≡ begun_anew said → IsPutFrom k l
put_closed k {said} {l} all same = put_on (put_self k all).alike (ap cycle_of all) (put_anew said same)

-- ---- what else steps stop for

-- of a slice
pub slice_reason : (One Two Silenced : Type 0) (limits : Limits) (first k : Checkpoint) (c : Content) (n old mid new : ℕ) (why : Stop) → ((l : Checkpoint) → IsRunBy k limits l → IsPutFrom first l) → (Two → One) → (Two → old ≤ mid) → (Two → k.report ≡ summary_of c.report) → (Two → k.said ≤ k.report.bytes) → (IsWorn k.cursor → IsWornAfter first n) → (IsEndless k.left → IsEndless first.left)
    → IsReason One (ForSlice limits k c) mid new why → IsReason Two (ForRuns Silenced first n) old new why
slice_reason One Two Silenced limits first k c n old mid new why put given before fits within worn endless is =
    reason_on (ForSlice limits k c) (ForRuns Silenced first n) old mid new given before why (λ two changed. absurd (changed (fits two))) (other why) is
  where
    other : (w : Stop) → IsElse w → ForSlice limits k c One w → ForRuns Silenced first n Two w
    other (Folder x) it is = absurd it
    other (TooLong text) it is = too_long put is
    other (Unread p) it is = is
    other Worn it is = worn is
    other Endless it is = endless is
    other Unsaid it is = is
    other Oversaid it is = λ two. let over = is (given two) (fits two) in let le = within two in omega arith
    other Short it is = absurd is
    other Output it is = absurd is

-- of a checkpoint that is put after one
pub put_reason : (One Two Silenced : Type 0) (OneOf : Checkpoint → Type 0) (first : Checkpoint) (n old mid new : ℕ) (why : Stop) → ((l : Checkpoint) → OneOf l → IsPutFrom first l) → (Two → One) → (Two → old ≤ mid) → (Two → (l : Checkpoint) → OneOf l → l.said ≤ l.report.bytes)
    → IsReason One (ForPut OneOf) mid new why → IsReason Two (ForRuns Silenced first n) old new why
put_reason One Two Silenced OneOf first n old mid new why put given before within is =
    reason_on (ForPut OneOf) (ForRuns Silenced first n) old mid new given before why (λ two no. absurd no) (other why) is
  where
    other : (w : Stop) → IsElse w → ForPut OneOf One w → ForRuns Silenced first n Two w
    other (Folder x) it is = absurd it
    other (TooLong text) it is = too_long put is
    other (Unread p) it is = is
    other Worn it is = absurd is
    other Endless it is = absurd is
    other Unsaid it is = is
    other Oversaid it is = λ two. let le = within two is.0 is.1.0 in let over = is.1.1 in omega (arith, over)
    other Short it is = absurd is
    other Output it is = absurd is

-- of what is said after the runs
pub speak_reason : (One Two Silenced : Type 0) (first k : Checkpoint) (c : Content) (s0 s1 : Said) (n old mid new : ℕ) (why : Stop) → IsPutFrom first (with_all_said k) → (Two → One) → (Two → old ≤ mid) → (Two → (rounds : Rounds) × ((t : Text) × Stands rounds t k c)) → (HasFailed s0.failures s1.failures → Silenced)
    → IsReason One (ForSpeak k c s0 s1) mid new why → IsReason Two (ForRuns Silenced first n) old new why
speak_reason One Two Silenced first k c s0 s1 n old mid new why put given before stands silenced is =
    reason_on (ForSpeak k c s0 s1) (ForRuns Silenced first n) old mid new given before why (λ two no. absurd no) (other why) is
  where
    other : (w : Stop) → IsElse w → ForSpeak k c s0 s1 One w → ForRuns Silenced first n Two w
    other (Folder x) it is = absurd it
    other (TooLong text) it is = too_long (λ l same. subst (IsPutFrom first) (sym same) put) is
    other (Unread p) it is = is
    other Worn it is = absurd is
    other Endless it is = absurd is
    other Unsaid it is = is
    other Oversaid it is = λ two. never_oversaid (stands two).1.1 is
    other Short it is = λ two. never_short (stands two).1.1 (is (given two))
    other Output it is = silenced is

-- of the closing of what they wrote
pub close_reason : (One Two Silenced : Type 0) (first k : Checkpoint) (n old mid new : ℕ) (why : Stop) → k.said ≡ k.report.bytes → ((l : Checkpoint) → l ≡ begun_anew k → IsPutFrom first l) → (Two → One) → (Two → old ≤ mid) → IsReason One (ForClose k) mid new why → IsReason Two (ForRuns Silenced first n) old new why
close_reason One Two Silenced first k n old mid new why all put given before is =
    reason_on (ForClose k) (ForRuns Silenced first n) old mid new given before why (λ two no. absurd no) (other why) is
  where
    other : (w : Stop) → IsElse w → ForClose k One w → ForRuns Silenced first n Two w
    other (Folder x) it is = absurd it
    other (TooLong text) it is = too_long put is
    other (Unread p) it is = absurd is
    other Worn it is = absurd is
    other Endless it is = absurd is
    other Unsaid it is = absurd (is all)
    other Oversaid it is = absurd is
    other Short it is = absurd is
    other Output it is = absurd is

-- of the opening of a night
pub opening_reason : (One Two : Type 0) (IsUnreadAt : Place → Type 0) (IsOf : Checkpoint → Type 0) (OneOf : Checkpoint → Type 0) (night : Course) (old new : ℕ) (why : Stop) → ((l : Checkpoint) → OneOf l → IsPutIn IsOf night Two l) → (Two → One)
    → IsReason One (ForOpen OneOf night.content) old new why → IsReason Two (ForNight IsUnreadAt IsOf night) old new why
opening_reason One Two IsUnreadAt IsOf OneOf night old new why put given is =
    reason_on (ForOpen OneOf night.content) (ForNight IsUnreadAt IsOf night) old old new given (λ two. omega arith) why (λ two long. long) (other why) is
  where
    other : (w : Stop) → IsElse w → ForOpen OneOf night.content One w → ForNight IsUnreadAt IsOf night Two w
    other (Folder x) it is = absurd it
    other (TooLong text) it is = too_long put is
    other (Unread p) it is = absurd is
    other Worn it is = absurd is
    other Endless it is = absurd is
    other Unsaid it is = absurd is
    other Oversaid it is = λ two. is (given two)
    other Short it is = absurd is
    other Output it is = absurd is

-- of one that looked at its root before
pub set_out_reason : (Told : Type 0) (IsUnreadAt : Place → Type 0) (One Two : Checkpoint → Type 0) (night : Course) (old new : ℕ) (why : Stop) → ((l : Checkpoint) → One l → Two l) → IsReason Told (ForNight (λ _. ⊥) One night) old new why → IsReason Told (ForNight IsUnreadAt Two night) old new why
set_out_reason Told IsUnreadAt One Two night old new why wider is =
    reason_on (ForNight (λ _. ⊥) One night) (ForNight IsUnreadAt Two night) old old new (λ told. told) (λ told. omega arith) why (λ told long. long) (other why) is
  where
    other : (w : Stop) → IsElse w → ForNight (λ _. ⊥) One night Told w → ForNight IsUnreadAt Two night Told w
    other (Folder x) it is = absurd it
    other (TooLong text) it is = too_long (λ l put. (wider l put.0, put.1)) is
    other (Unread p) it is = absurd is
    other Worn it is = is
    other Endless it is = is
    other Unsaid it is = is
    other Oversaid it is = is
    other Short it is = is
    other Output it is = is

-- or before them
pub caught_reason : (One Two : Type 0) (IsUnreadAt : Place → Type 0) (IsOf : Checkpoint → Type 0) (night : Course) (k : Checkpoint) (c : Content) (s0 s1 : Said) (old mid new : ℕ) (why : Stop) → IsOf (with_all_said k) → (Two → BeginsAt night.further night.create night.content k) → (Two → One) → (Two → old ≤ mid) → (Two → (rounds : Rounds) × ((t : Text) × Stands rounds t k c)) → (HasFailed s0.failures s1.failures → HasFailed night.old.failures night.new.failures)
    → IsReason One (ForSpeak k c s0 s1) mid new why → IsReason Two (ForNight IsUnreadAt IsOf night) old new why
caught_reason One Two IsUnreadAt IsOf night k c s0 s1 old mid new why own begins given before stands silenced is =
    reason_on (ForSpeak k c s0 s1) (ForNight IsUnreadAt IsOf night) old mid new given before why (λ two no. absurd no) (other why) is
  where
    other : (w : Stop) → IsElse w → ForSpeak k c s0 s1 One w → ForNight IsUnreadAt IsOf night Two w
    other (Folder x) it is = absurd it
    other (TooLong text) it is = too_long (λ l same. subst (IsPutIn IsOf night Two) (sym same) (own, λ two. (k, (begins two, put_self k refl)))) is
    other (Unread p) it is = absurd is
    other Worn it is = absurd is
    other Endless it is = absurd is
    other Unsaid it is = is
    other Oversaid it is = λ two. never_oversaid (stands two).1.1 is
    other Short it is = λ two. never_short (stands two).1.1 (is (given two))
    other Output it is = silenced is

-- of a night that was not begun, by how many runs it answers
pub unbegun_reason : (One Two : Type 0) (IsUnreadAt : Place → Type 0) (IsOf : Checkpoint → Type 0) (further : Further) (create : Bool) (c : Content) (m n : ℕ) (s0 s1 : Said) (old new : ℕ) (why : Stop) → (Two → One) → m ≡ n
    → IsReason One (ForNight IsUnreadAt IsOf (course further create c m s0 s1)) old new why → IsReason Two (ForNight IsUnreadAt IsOf (course further create c n s0 s1)) old new why
unbegun_reason One Two IsUnreadAt IsOf further create c m n s0 s1 old new why given same is =
    reason_on (ForNight IsUnreadAt IsOf (course further create c m s0 s1)) (ForNight IsUnreadAt IsOf (course further create c n s0 s1)) old old new given (λ two. omega arith) why (λ two long. long) (other why) is
  where
    other : (w : Stop) → IsElse w → ForNight IsUnreadAt IsOf (course further create c m s0 s1) One w → ForNight IsUnreadAt IsOf (course further create c n s0 s1) Two w
    other (Folder x) it is = absurd it
    other (TooLong text) it is = too_long (λ l put. (put.0, λ two. put.1 (given two))) is
    other (Unread p) it is = is
    other Worn it is = λ two. let at = is (given two) in (at.0, (at.1.0, subst (IsWornAfter at.0) same at.1.1))
    other Endless it is = λ two. is (given two)
    other Unsaid it is = is
    other Oversaid it is = λ two. is (given two)
    other Short it is = λ two. is (given two)
    other Output it is = is

-- of the runs of one that was
pub night_reason : (One Two Silenced : Type 0) (IsUnreadAt : Place → Type 0) (IsOf : Checkpoint → Type 0) (night : Course) (first : Checkpoint) (m old mid new : ℕ) (why : Stop) → ((l : Checkpoint) → IsAlike first l → IsOf l) → (Two → One) → (Two → old ≤ mid) → (Two → BeginsAt night.further night.create night.content first) → (Silenced → HasFailed night.old.failures night.new.failures) → m ≡ night.runs
    → IsReason One (ForRuns Silenced first m) mid new why → IsReason Two (ForNight IsUnreadAt IsOf night) old new why
night_reason One Two Silenced IsUnreadAt IsOf night first m old mid new why own given before begins silenced same is =
    reason_on (ForRuns Silenced first m) (ForNight IsUnreadAt IsOf night) old mid new given before why (λ two no. absurd no) (other why) is
  where
    other : (w : Stop) → IsElse w → ForRuns Silenced first m One w → ForNight IsUnreadAt IsOf night Two w
    other (Folder x) it is = absurd it
    other (TooLong text) it is = too_long (λ l put. (own l put.alike, λ two. (first, (begins two, put)))) is
    other (Unread p) it is = absurd is
    other Worn it is = λ two. (first, (begins two, subst (IsWornAfter first) same is))
    other Endless it is = λ two. (first, (begins two, is))
    other Unsaid it is = is
    other Oversaid it is = λ two. is (given two)
    other Short it is = λ two. is (given two)
    other Output it is = silenced is

-- ---- what is appended, and said

-- a checkpoint after a run tells no more than its report has if the one before did not
pub keep_over : (k next : Checkpoint) (ran : RunEnd) (mark report : ReportMark) (c d : Content) (lines : Text) → IsNext k ran report next → mark ≡ k.report → d ≡ with_report (c.report ++ lines) c
    → (mark ≡ summary_of c.report → report ≡ summary_of d.report) → next.report.bytes < next.said → k.report ≡ summary_of c.report → k.report.bytes < k.said
keep_over k next ran mark report c d lines n mark_is grown marked over fits =
    let r : next.report.bytes ≡ length d.report = ap (λ (x : ReportMark). x.bytes) (n.report_is ∙ marked (mark_is ∙ fits)) in
    let g : length d.report ≡ length c.report + length lines = ap (λ (x : Content). length x.report) grown ∙ length-append c.report lines in
    let t : next.said ≡ k.said = ap (λ (x : Checkpoint). x.said) n.rest_is in
    let b : k.report.bytes ≡ length c.report = ap (λ (x : ReportMark). x.bytes) fits in
    omega arith

pub keep_reason : (Told : Type 0) (OneOf : Checkpoint → Type 0) (k next : Checkpoint) (c : Content) (old mid new : ℕ) (why : Stop) → OneOf next → (Told → old ≤ mid) → (Told → next.report.bytes < next.said → k.report ≡ summary_of c.report → k.report.bytes < k.said)
    → IsReason Told (ForPut (λ l. l ≡ next)) mid new why → IsReason Told (ForKeep OneOf k c) old new why
keep_reason Told OneOf k next c old mid new why one before over is =
    reason_on (ForPut (λ l. l ≡ next)) (ForKeep OneOf k c) old mid new (λ told. told) before why (λ told no. absurd no) (other why) is
  where
    other : (w : Stop) → IsElse w → ForPut (λ l. l ≡ next) Told w → ForKeep OneOf k c Told w
    other (Folder x) it is = absurd it
    other (TooLong text) it is = too_long (λ l same. subst OneOf (sym same) one) is
    other (Unread p) it is = is
    other Worn it is = is
    other Endless it is = is
    other Unsaid it is = is
    other Oversaid it is = λ told fits. over told (subst (λ (l : Checkpoint). l.report.bytes < l.said) is.1.0 is.1.1) fits
    other Short it is = is
    other Output it is = is

-- a checkpoint that is put, and no other one
pub put_by : (Told : Type 0) (Other : Type 0 → Stop → Type 0) (next : Checkpoint) (old mid new : ℕ) (why : Stop) → (Told → old ≤ mid) → (next.report.bytes < next.said → Other Told Oversaid) → ((text : Vec ℕ Global) → IsTooLong (λ l. l ≡ next) text.items → Other Told (TooLong text))
    → IsReason Told (ForPut (λ l. l ≡ next)) mid new why → IsReason Told Other old new why
put_by Told Other next old mid new why before over put is =
    reason_on (ForPut (λ l. l ≡ next)) Other old mid new (λ told. told) before why (λ told no. absurd no) (other why) is
  where
    other : (w : Stop) → IsElse w → ForPut (λ l. l ≡ next) Told w → Other Told w
    other (Folder x) it is = absurd it
    other (TooLong text) it is = put text is
    other (Unread p) it is = absurd is
    other Worn it is = absurd is
    other Endless it is = absurd is
    other Unsaid it is = absurd is
    other Oversaid it is = over (subst (λ (l : Checkpoint). l.report.bytes < l.said) is.1.0 is.1.1)
    other Short it is = absurd is
    other Output it is = absurd is

-- one of some checkpoints that is put, so one of others
pub put_wider : (Told : Type 0) {One Two : Checkpoint → Type 0} (old mid new : ℕ) (why : Stop) → (Told → old ≤ mid) → ((l : Checkpoint) → One l → Two l) → IsReason Told (ForPut One) mid new why → IsReason Told (ForPut Two) old new why
put_wider Told {One} {Two} old mid new why before wider is =
    reason_on (ForPut One) (ForPut Two) old mid new (λ told. told) before why (λ told no. absurd no) (other why) is
  where
    other : (w : Stop) → IsElse w → ForPut One Told w → ForPut Two Told w
    other (Folder x) it is = absurd it
    other (TooLong text) it is = too_long wider is
    other (Unread p) it is = absurd is
    other Worn it is = absurd is
    other Endless it is = absurd is
    other Unsaid it is = absurd is
    other Oversaid it is = (is.0, (wider is.0 is.1.0, is.1.1))
    other Short it is = absurd is
    other Output it is = absurd is

-- one with which a night was to begin
pub open_reason : (Told : Type 0) {One Two : Checkpoint → Type 0} (c : Content) (old mid new : ℕ) (why : Stop) → (Told → old ≤ mid) → ((l : Checkpoint) → One l → Two l) → (Told → (l : Checkpoint) → One l → l.said ≤ l.report.bytes) → IsReason Told (ForPut One) mid new why → IsReason Told (ForOpen Two c) old new why
open_reason Told {One} {Two} c old mid new why before wider within is =
    reason_on (ForPut One) (ForOpen Two c) old mid new (λ told. told) before why (λ told no. absurd no) (other why) is
  where
    other : (w : Stop) → IsElse w → ForPut One Told w → ForOpen Two c Told w
    other (Folder x) it is = absurd it
    other (TooLong text) it is = too_long wider is
    other (Unread p) it is = absurd is
    other Worn it is = absurd is
    other Endless it is = absurd is
    other Unsaid it is = absurd is
    other Oversaid it is = λ told. let le = within told is.0 is.1.0 in let over = is.1.1 in omega (arith, over)
    other Short it is = absurd is
    other Output it is = absurd is

-- the first one in a folder
pub first_reason : (Told : Type 0) {Two : Checkpoint → Type 0} (site : Site) (id : Identity) (c d : Content) (old mid new : ℕ) (why : Stop) → (Told → old ≤ mid) → ((l : Checkpoint) → IsFirst Told site id d l → Two l) → IsReason Told (ForFirst site id d) mid new why → IsReason Told (ForOpen Two c) old new why
first_reason Told {Two} site id c d old mid new why before wider is =
    reason_on (ForFirst site id d) (ForOpen Two c) old mid new (λ told. told) before why (λ told no. absurd no) (other why) is
  where
    other : (w : Stop) → IsElse w → ForFirst site id d Told w → ForOpen Two c Told w
    other (Folder x) it is = absurd it
    other (TooLong text) it is = too_long wider is
    other (Unread p) it is = absurd is
    other Worn it is = absurd is
    other Endless it is = absurd is
    other Unsaid it is = absurd is
    other Oversaid it is = absurd is
    other Short it is = absurd is
    other Output it is = absurd is

-- bytes that are said after others
pub say_reason : (Told : Type 0) (c d : Content) (s0 s1 s2 : Said) (end most old mid new : ℕ) (why : Stop) → (Told → d ≡ c) → most ≡ end → s0.failures ≤ s1.failures → (Told → old ≤ mid)
    → IsReason Told (ForSay d most s1 s2) mid new why → IsReason Told (ForSay c end s0 s2) old new why
say_reason Told c d s0 s1 s2 end most old mid new why same most_is grew before is =
    reason_on (ForSay d most s1 s2) (ForSay c end s0 s2) old mid new (λ told. told) before why (λ told no. absurd no) (other why) is
  where
    other : (w : Stop) → IsElse w → ForSay d most s1 s2 Told w → ForSay c end s0 s2 Told w
    other (Folder x) it is = absurd it
    other (TooLong text) it is = is
    other (Unread p) it is = is
    other Worn it is = is
    other Endless it is = is
    other Unsaid it is = is
    other Oversaid it is = is
    other Short it is = λ told. let a : length d.report < most = is told in subst (λ (x : Content). length x.report < end) (same told) (omega (arith, most_is, a))
    other Output it is = failed_since grew is

-- ---- what the last branch was

last_endless : (l : Left) → end_of l.place ≡ None → has_end l.place ≡ false
last_endless l none = by (has_end l.place) refl
  where
    by : (b : Bool) → has_end l.place ≡ b → has_end l.place ≡ false
    by true is = let some : end_of l.place ≡ Some (past l.place) = ap (λ (x : Bool). if x then Some (past l.place) else None) is in absurd (cc (some, none))
    by false is = is

endless_at : (left : List Left) (n : ℕ) (l : Left) → n + 1 ≡ length left → slice_get left n ≡ Some l → end_of l.place ≡ None → IsEndless left
endless_at [] n l long is none = absurd (cc is)
endless_at (x ∷ []) zero l long is none = last_endless x (let same : x ≡ l = cc is in ap (λ (y : Left). end_of y.place) same ∙ none)
endless_at (x ∷ []) (suc n) l long is none = absurd (cc is)
endless_at (x ∷ y ∷ left) zero l long is none = absurd (omega (arith, long))
endless_at (x ∷ y ∷ left) (suc n) l long is none = endless_at (y ∷ left) n l (omega (arith, long)) is none

pub endless_last : (left : List Left) (l : Left) → slice_get left (length left - 1) ≡ Some l → end_of l.place ≡ None → IsEndless left
endless_last [] l is none = absurd (cc is)
endless_last (x ∷ left) l is none = endless_at (x ∷ left) (length (x ∷ left) - 1) l (omega arith) is none

-- ---- of a night

pub ended_troubled : (r : Result Halt Stop) (why : Stop) → ended_by r ≡ halt.Troubled why → ((w : Stop) → r ≢ Ok (halt.Troubled w)) → r ≡ Err why
ended_troubled (Ok h) why is other = absurd (other why (ap (λ (x : Halt). Ok x) is))
ended_troubled (Err w) why is other = ap (λ (x : Stop). Err x) (cc is)

pub unbegun_troubled : (w : NotOpened) (why : Stop) → unbegun_by w ≡ halt.Troubled why → w ≡ unopened.Troubled why
unbegun_troubled (unopened.Refused x) why is = absurd (cc is)
unbegun_troubled (unopened.Troubled x) why is = ap (λ (y : Stop). unopened.Troubled y) (cc is)

pub opened_reason : (Told : Type 0) (Other : Type 0 → Stop → Type 0) (old new : ℕ) (T : Type 0) (w : NotOpened) (why : Stop) → w ≡ unopened.Troubled why → OpensFor {T = T} Told Other old new (Err w) → IsReason Told Other old new why
opened_reason Told Other old new T w why is opens = subst (λ (x : NotOpened). OpensFor {T = T} Told Other old new (Err x)) is opens

pub stopped_reason : (Told : Type 0) (Other : Type 0 → Stop → Type 0) (old new : ℕ) {T : Type 0} (r : Result T Stop) (why : Stop) → r ≡ Err why → StopsFor Told Other old new r → IsReason Told Other old new why
stopped_reason Told Other old new {T} r why is stops = subst (λ (x : Result T Stop). StopsFor Told Other old new x) is stops
