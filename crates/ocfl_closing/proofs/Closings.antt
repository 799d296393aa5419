-- Closings that were said, by the calls that were made.
use Rattle.std.proofs.Common.{◌≡◌, ◌≤◌, ℕ, Option, [], max, refl, subst}
use Rattle.ocfl_state.specs.Checkpoint.{Checkpoint}
use Rattle.ocfl_say.specs.Said.{Said, Grows}
use Rattle.ocfl_accounts.specs.{Changes.{Says}, Crash.{Same}, Kept.{Kept}, Rounds.{MayAccounts}, Telling.{AreSaid, stand_of}, Unsaid.{NoneUnsaid, oldest}}
use Rattle.ocfl_closed.specs.{Cut.{ClosedState, Passes}, Files.{kept_of}, Words.{Means, said_by}}
use Rattle.ocfl_closed.proofs.Passing.{same_then}
use Rattle.ocfl_closing.specs.Closing.{HasSaid, end_of}

abbrev With : Type 0
With = Means × (ℕ → Option Checkpoint)

abbrev says : With → Says
says w = said_by w.0 w.1

-- none of the last 1,000 before a cycle was left unsaid, and all from that one on were said
pub said_from : (m : Means) (w : With) (before closed first start end faults faults_then status : ℕ) (old mid new : ClosedState) (said then : Said)
    → NoneUnsaid (kept_of old.files) (oldest before) first → first ≤ before → start ≡ max first 1 → end ≡ end_of before closed → kept_of mid.files ≡ kept_of old.files → w ≡ (m, old.files.checkpoint)
    → Passes Same old mid
    → AreSaid (stand_of (kept_of mid.files) faults said) start end (said_by w.0 w.1) (stand_of (kept_of new.files) faults_then then) status
    → Passes (MayAccounts (kept_of mid.files) (said_by w.0 w.1) start end said then) mid new → Grows said then → HasSaid m before closed old new said then status
said_from m w before closed first start end faults faults_then status old mid new said then none within starts ends seen with calm are crash grew =
    let own : Says = said_by m old.files.checkpoint in
    let are_so : AreSaid (stand_of (kept_of old.files) faults said) start end own (stand_of (kept_of new.files) faults_then then) status = subst (λ (k : Kept). AreSaid (stand_of k faults said) start end own (stand_of (kept_of new.files) faults_then then) status) seen
    (subst (λ (v : With). AreSaid (stand_of (kept_of mid.files) faults said) start end (says v) (stand_of (kept_of new.files) faults_then then) status) with are) in
    let crash_so : Passes (MayAccounts (kept_of old.files) own start end said then) mid new = subst (λ (k : Kept). Passes (MayAccounts k own start end said then) mid new) seen
    (subst (λ (v : With). Passes (MayAccounts (kept_of mid.files) (says v) start end said then) mid new) with crash) in
    record {
      first = first;
      none = none;
      within = within;
      faults = faults;
      faults_then = faults_then;
      are = subst (λ (n : ℕ). AreSaid (stand_of (kept_of old.files) faults said) n (end_of before closed) own (stand_of (kept_of new.files) faults_then then) status) starts
          (subst (λ (n : ℕ). AreSaid (stand_of (kept_of old.files) faults said) start n own (stand_of (kept_of new.files) faults_then then) status) ends are_so);
      crash = subst (λ (n : ℕ). Passes (MayAccounts (kept_of old.files) own n (end_of before closed) said then) old new) starts
          (subst (λ (n : ℕ). Passes (MayAccounts (kept_of old.files) own start n said then) old new) ends
          (same_then (MayAccounts (kept_of old.files) own start end said then) (λ k. ([], (grew, refl))) old mid new calm crash_so));
    }
