-- Where nights begin, and which cycle they end.
use Rattle.std.proofs.Common.{◌≡◌, ◌≢◌, ◌≤◌, ◌∙◌, ◌++◌, ◌∷◌, [], inl, inr, ℕ, List, Bool, true, false, Option, Some, None, Result, Ok, Err, ap, arith, length, refl, subst, sym}
use Rattle.std.proofs.lemmas.List.{nil_from_length}
use Rattle.std.specs.Prelude.{◌⊎◌, IfOk, IsOk, IsTrue, OnOk}
use Rattle.ocfl_tree.specs.Place.{Text, Place}
use Rattle.ocfl_report.specs.declared.further.Further.{Further}
use Rattle.ocfl_cursor.specs.{Cursor.{Cursor}, Moves.{after_run}, declared.limits.Limits.{Limits}}
use Rattle.ocfl_scrub.specs.{Running.{begun, state_after}, declared.running.RunEnd.{RunEnd}}
use Rattle.ocfl_scrub.specs.declared.running.RunStatus.{RunStatus}
use Rattle.ocfl_scrub.specs.declared.running.RunStatus.TheVariants as status
use Rattle.ocfl_state.specs.{Checkpoint.{Checkpoint}, Content.{Content, Closed, is_closed}}
use Rattle.ocfl_state.specs.declared.checkpoint_parts.{Phase.{Phase}, Phase.TheVariants.{Open, Closing}, ReportMark.{ReportMark}}
use Rattle.ocfl_night.specs.Beginning.{BeginsAt, Position, first, first_position, position, stored}
use Rattle.ocfl_night.specs.{Chain.{HasClosed}, Done.{Done}, Leaving.{done_by, remedy_at}, Looks.{Rounds}}
use Rattle.ocfl_night.specs.Ending.{IsSlice, KeepsTo, cycle_ended, cycle_in, cycle_of, ended_by, halt_after, place_or_pause, unbegun_by}
use Rattle.ocfl_night.specs.Runs.{StopsOpen, Turn, after_end, after_made, turn_of}
use Rattle.ocfl_night.specs.Sound.{IsAt, IsOneMore, IsShut, Stands}
use Rattle.ocfl_identity.specs.declared.identity.Identity.{Identity}
use Rattle.ocfl_night.specs.{Site.{with_root}, Steps.{IsNext, IsTakenUp, fitted}, Stopping.{IsFirst, IsToOpen}}
use Rattle.ocfl_night.specs.{declared.opening.Opened.{Opened}, declared.not_opened.NotOpened.{NotOpened}, declared.site.Site.{Site}}
use Rattle.ocfl_terms.specs.{declared.refusal.Refusal.{Refusal}, declared.stop.Stop.{Stop}}
use Rattle.ocfl_night.specs.declared.not_opened.NotOpened.TheVariants as unopened
use Rattle.ocfl_terms.specs.{declared.plan.Halt.{Halt}, declared.made.Made.{Made}}
use Rattle.ocfl_night.specs.{declared.pause.Pause.{Pause}, declared.tally.Remedy.{Remedy}}
use Rattle.ocfl_terms.specs.declared.plan.Halt.TheVariants as halt
use Rattle.ocfl_night.specs.declared.tally.Remedy.TheVariants as remedy
use Rattle.ocfl_night.proofs.{Chains.{cycle_after, not_there}, Foreigners.{at_once, first_own}, Runs.{stops_open}}

-- ---- where a night begins

pub begins_first : {further : Further} {create : Bool} {c : Content} {start : Checkpoint} → c.checkpoint ≡ None → create ≡ true → length c.report ≡ 0 → is_closed c.closed 1 ≡ false → position start ≡ first_position further → BeginsAt further create c start
begins_first {c = c} none may empty unclosed at = first (record { none = none; may = may; empty = nil_from_length c.report empty; unclosed = unclosed }) at

-- by what beginning answers, in a folder that shows what it had
pub begun_first : (further : Further) {create : Bool} (c shown : Content) (r : Result Opened NotOpened) → create ≡ true → c.checkpoint ≡ None → shown.report ≡ c.report → shown.closed ≡ c.closed → OnOk r (length shown.report ≡ 0) → OnOk r (is_closed shown.closed 1 ≡ false)
    → IfOk r (λ opened. position opened.checkpoint ≡ first_position further) → IfOk r (λ opened. BeginsAt further create c opened.checkpoint)
begun_first further c shown (Ok opened) may none report closed empty unclosed at =
    begins_first none may (ap (λ (l : Text). length l) (sym report) ∙ empty) (ap (λ (l : List Closed). is_closed l 1) (sym closed) ∙ unclosed) at
begun_first further c shown (Err why) may none report closed empty unclosed at = tt

-- what is opened with a checkpoint stands where that does
pub fitted_stays : (there : Option ReportMark) (k : Checkpoint) → position (fitted there k) ≡ position k
fitted_stays None k = refl
fitted_stays (Some mark) k = refl

pub taken_stays : (id : Identity) {k l : Checkpoint} → IsTakenUp id k l → position l ≡ position k
taken_stays id {k = k} (there, is) = ap position is ∙ fitted_stays there k

-- it tells no more than its report has if that does not
pub taken_within : (id : Identity) {k l : Checkpoint} → k.said ≤ k.report.bytes → IsTakenUp id k l → l.said ≤ l.report.bytes
taken_within id {k} {l} within (there, is) = by there is
  where
    by : (o : Option ReportMark) → l ≡ with_root id (fitted o k) → l.said ≤ l.report.bytes
    by None is = subst (λ (x : Checkpoint). x.said ≤ x.report.bytes) (sym is) within
    by (Some mark) is = subst (λ (x : Checkpoint). x.said ≤ x.report.bytes) (sym is) (omega arith)

-- the first one, in a folder that shows this
pub first_to_open : {Told : Type 0} {site : Site} {id : Identity} {create : Bool} {c d : Content} {k : Checkpoint} → (Told → c.checkpoint ≡ None) → create ≡ true → (Told → d ≡ c) → IsFirst Told site id d k → IsToOpen Told site id create c k
first_to_open {site = site} {id} {d = d} {k} none may same f = record {
  own = first_own site id f.is;
  begins = λ told. begins_first (none told) may (ap (λ (x : Content). length x.report) (sym (same told)) ∙ f.empty told) (ap (λ (x : Content). is_closed x.closed 1) (sym (same told)) ∙ f.unclosed told) (ap position f.is);
}

-- at a checkpoint that stands there too
pub begins_so : {further : Further} {create : Bool} {c : Content} {start next : Checkpoint} → position next ≡ position start → BeginsAt further create c start → BeginsAt further create c next
begins_so same (first is at) = first is (same ∙ at)
begins_so same (stored k there at) = stored k there (same ∙ at)

-- ---- the cycle of a checkpoint

in_cycle : (k : Checkpoint) {phase : Phase} → k.phase ≡ phase → cycle_of k ≡ cycle_in phase k.cursor
in_cycle k is = ap (λ (p : Phase). cycle_in p k.cursor) is

-- one that has ended
pub ended_in : (k : Checkpoint) (cycle : ℕ) → Some cycle ≡ cycle_ended k.phase k.cursor.cycle → cycle ≡ cycle_of k
ended_in k cycle is = by k.phase is
  where
    by : (p : Phase) → Some cycle ≡ cycle_ended p k.cursor.cycle → cycle ≡ cycle_in p k.cursor
    by Open is = absurd (cc is)
    by Closing is = cc is

-- a run stays in it
pub cycle_next : {k next : Checkpoint} {limits : Limits} {ran : RunEnd} {mark : ReportMark} → k.phase ≡ Open → KeepsTo k.cursor limits ran → IsNext k ran mark next → cycle_of next ≡ cycle_of k
cycle_next {k} {next} {ran = ran} going keeps is = by ran.end refl
  where
    cursor : next.cursor ≡ after_run (begun k.cursor) ran.spent ran.files (state_after ran.end keeps.last)
    cursor = is.cursor_is ∙ keeps.cursor

    goes : ran.end ≢ status.Ended → cycle_of next ≡ cycle_of k
    goes on = in_cycle next (is.goes_on on) ∙ cycle_after (begun k.cursor) next.cursor ran.spent ran.files ran.end keeps.last on cursor ∙ sym (in_cycle k going)

    by : (e : RunStatus) → ran.end ≡ e → cycle_of next ≡ cycle_of k
    by status.Ended e = in_cycle next (is.ended e) ∙ ap (λ (x : Cursor). x.cycle) cursor ∙ sym (in_cycle k going)
    by status.Spent e = goes (λ x. absurd (cc (e, x)))
    by (status.Stopped why) e = goes (λ x. absurd (cc (e, x)))
    by status.Worn e = goes (λ x. absurd (cc (e, x)))

-- so does a slice
pub made_in : {k : Checkpoint} {limits : Limits} {made : Made} → k.phase ≡ Open → IsSlice k limits made → cycle_of made.checkpoint ≡ cycle_of k
made_in going (inl un) = ap cycle_of un.checkpoint
made_in going (inr r) = cycle_next going r.1.0 r.1.2.1

-- and so does what is done after it
done_in : (p : Place) (k : Checkpoint) (done : Remedy) → cycle_of (done_by k p done).0 ≡ cycle_of k
done_in p k remedy.TryAgain = refl
done_in p k (remedy.LeaveOut branch) = refl
done_in p k remedy.Halt = refl

after_in : (strict : Bool) (d : Done) (k : Checkpoint) (at : Result Place (Option Pause)) → cycle_of (after_end strict d k at).checkpoint ≡ cycle_of k
after_in strict d k (Ok p) = done_in p k (remedy_at strict d p)
after_in strict d k (Err why) = refl

pub next_in : (strict : Bool) (d e : Done) {k : Checkpoint} {limits : Limits} {made : Made} (next : Checkpoint × Option Pause) → k.phase ≡ Open → IsSlice k limits made → (StopsOpen made → turn_of e next ≡ after_made strict d made) → cycle_of next.0 ≡ cycle_of k
next_in strict d e {made = made} next going is led =
    ap (λ (x : Turn). cycle_of x.checkpoint) (led (stops_open going is)) ∙ after_in strict d made.checkpoint (place_or_pause made.end) ∙ made_in going is

-- ---- one more closed report

-- it was closed when the night began
module _ (rounds : Rounds) (k : Checkpoint) (c : Content) {cycle : ℕ} (is : cycle ≡ cycle_of k) (shut : IsTrue (is_closed c.closed cycle)) where
  unshut : {phase : Phase} → k.phase ≡ phase → HasClosed rounds (cycle_in phase k.cursor) c.closed → ⊥
  unshut at has = let still : is_closed c.closed cycle ≡ false = not_there has (omega (arith, is, in_cycle k at)) in cc (still, shut)

  pub shut_before : {t : Text} → IsAt k c → Stands rounds t k c → IsShut cycle c
  shut_before at (inl o) = absurd (unshut o.phase o.earlier)
  shut_before at (inr (inl w)) = absurd (unshut w.phase w.earlier)
  shut_before at (inr (inr w)) = record { checkpoint = k; at = at; phase = w.phase; is = sym (is ∙ in_cycle k w.phase); closed = shut }

pub one_more_since : {rounds : Rounds} {cycle : ℕ} {old mid new : Content} → mid.closed ≡ old.closed → (IsShut cycle mid → IsShut cycle old) → IsOneMore rounds cycle mid new → IsOneMore rounds cycle old new
one_more_since {cycle = cycle} {old} {mid} {new} same shut m = record { now = m.now; there = m.there; before = by m.before }
  where
    by : ((d : Closed) × (new.closed ≡ mid.closed ++ d ∷ [])) ⊎ ((new.closed ≡ mid.closed) × IsShut cycle mid) → ((d : Closed) × (new.closed ≡ old.closed ++ d ∷ [])) ⊎ ((new.closed ≡ old.closed) × IsShut cycle old)
    by (inl one) = inl (one.0, one.1 ∙ ap (λ (l : List Closed). l ++ one.0 ∷ []) same)
    by (inr was) = inr (was.0 ∙ same, shut was.1)

-- in the folder before it was opened
pub shut_since : {further : Further} {create : Bool} {cycle : ℕ} {start : Checkpoint} {old mid : Content} → BeginsAt further create old start → IsAt start mid → mid.closed ≡ old.closed → IsShut cycle mid → IsShut cycle old
shut_since {cycle = cycle} {start} {old} {mid} begins at same was = by begins
  where
    is : was.checkpoint ≡ start
    is = at_once was.at at

    phase : start.phase ≡ Closing
    phase = ap (λ (x : Checkpoint). x.phase) (sym is) ∙ was.phase

    by : {further : Further} {create : Bool} → BeginsAt further create old start → IsShut cycle old
    by (first new there) = let going : start.phase ≡ Open = ap (λ (x : Position). x.phase) there in absurd (cc (going, phase))
    by (stored k found there) = record {
      checkpoint = k;
      at = found;
      phase = ap (λ (x : Position). x.phase) (sym there) ∙ phase;
      is = ap (λ (x : Position). x.cursor.cycle) (sym there) ∙ ap (λ (x : Checkpoint). x.cursor.cycle) (sym is) ∙ was.is;
      closed = subst (λ (l : List Closed). IsTrue (is_closed l cycle)) same was.closed;
    }

-- a night that ended no cycle
pub none_ended : (ended : Option ℕ) (why : Pause) {end : Halt} → end ≡ halt_after ended why → ((cycle : ℕ) → end ≢ halt.CycleEnded cycle) → ended ≡ None
none_ended None why is other = refl
none_ended (Some cycle) why is other = absurd (other cycle is)

-- it closed no report
pub still_on : {P : Type 0} (r : Result Halt Stop) {end : Halt} → IsOk r → IfOk r (λ h. ((cycle : ℕ) → h ≢ halt.CycleEnded cycle) → P) → end ≡ ended_by r → ((cycle : ℕ) → end ≢ halt.CycleEnded cycle) → P
still_on (Ok h) ok still is other = still (λ cycle ended. other cycle (is ∙ ended))
still_on (Err why) ok still is other = absurd (cc ok)

-- one that was refused left the folder as it was
pub refused_still : {P : Type 0} (why : NotOpened) {end : Halt} → end ≡ unbegun_by why → ((stop : Stop) → end ≢ halt.Troubled stop) → ((refusal : Refusal) → why ≡ unopened.Refused refusal → P) → P
refused_still (unopened.Refused refusal) is well still = still refusal refl
refused_still (unopened.Troubled stop) is well still = absurd (well stop is)
