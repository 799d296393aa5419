-- How a night takes up what the last one left.
use Rattle.std.proofs.Common.{◌≡◌, ℕ, [], Option, Some, None, MatchOption, refl, sym, ◌∙◌, ap, subst, take}
use Rattle.ocfl_tree.specs.Place.{Text}
use Rattle.ocfl_night.specs.Looks.{Rounds}
use Rattle.ocfl_state.specs.{Checkpoint.{Checkpoint}, Content.{Content, with_report}}
use Rattle.ocfl_state.specs.Crash.{Outcomes, Only, Same, Passes, LeavesOnly}
use Rattle.ocfl_state.specs.declared.checkpoint_parts.ReportMark.{ReportMark}
use Rattle.ocfl_state.specs.declared.folder.StateFolder as state
use Rattle.ocfl_state.specs.declared.checkpoint_parts.Phase.TheVariants.{Open, Closing}
use Rattle.ocfl_night.specs.Sound.{Stands, IsNew, IsSoundAt, IsSound, AreSound, IsAt, IsSettled, IsReady, IsFound, IsFoundReady}
use Rattle.ocfl_night.specs.Steps.{fitted}
use Rattle.ocfl_night.proofs.Moments.{OnlyNow, only_same, unchanged, leaves_weaker, joined_moments}
use Rattle.ocfl_night.proofs.Heard.{kept_found}
use Rattle.ocfl_night.proofs.Sound.{holds_sound, new_sound, sound_new, cut_open}

-- before the first checkpoint
pub new_here : (rounds : Rounds) {outcomes : Outcomes} {d : Content} → Only d outcomes → d.checkpoint ≡ None → IsNew [] d → (c : Content) → outcomes c → IsSoundAt rounds [] c
new_here rounds only none new c left = subst (IsSoundAt rounds []) (sym (only c left)) (sound_new rounds none new)

pub begun_moments : {F : Type 0} {may_leave : F → Outcomes} {moment : F → ℕ} {left_since : F → ℕ → Outcomes} {f g h : F} {d c : Content} (rounds : Rounds) → OnlyNow may_leave moment left_since
    → Only d (may_leave f) → d.checkpoint ≡ None → IsNew [] d → Passes may_leave moment left_since Same f g → c ≡ d
    → (Only c (may_leave g) → c.checkpoint ≡ None → IsNew [] c → LeavesOnly moment left_since g h (IsSoundAt rounds [])) → LeavesOnly moment left_since f h (IsSoundAt rounds [])
begun_moments rounds only_now only none new p same then =
    joined_moments
    (unchanged only_now (new_here rounds only none new) p)
    (then (λ x n. let from = p.now x n in from.2 ∙ only from.0 from.1 ∙ sym same) (ap (λ (x : Content). x.checkpoint) same ∙ none) (subst (IsNew []) (sym same) new))

-- ---- what is taken up

module _ {F : Type 0} {S : state.Ghosts F} {rounds : Rounds} {t : Text} {k : Checkpoint} {f g : F} where
  pub cut_ready : k.phase ≡ Open → IsSettled S rounds t k f → S.seen g ≡ with_report (take k.report.bytes (S.seen f).report) (S.seen f) → Only (S.seen g) (S.may_leave g) → IsReady S rounds t k g
  cut_ready is r cut only =
      let now = cut_open is (record { at = r.at; stands = r.stands }) cut in
      record { at = now.0.at; stands = now.0.stands; exact = λ phase. now.1; only = only }

  pub settled_on : k.phase ≡ Closing → IsSettled S rounds t k f → S.seen g ≡ S.seen f → Only (S.seen g) (S.may_leave g) → IsReady S rounds t k g
  settled_on is r same only = record {
    at = subst (IsAt k) (sym same) r.at;
    stands = subst (Stands rounds t k) (sym same) r.stands;
    exact = λ phase. absurd (cc (is, phase));
    only = only;
  }

-- a call changed nothing
pub settled_still : {F : Type 0} {S : state.Ghosts F} {rounds : Rounds} {t : Text} {k : Checkpoint} {f g : F} → IsSettled S rounds t k f → S.seen g ≡ S.seen f → Passes S.may_leave S.moment S.left_since Same f g → IsSettled S rounds t k g
settled_still {S = S} {rounds = rounds} {t} {k} r same p = record {
  at = subst (IsAt k) (sym same) r.at;
  stands = subst (Stands rounds t k) (sym same) r.stands;
  only = only_same S.seen p same r.only;
}

-- what is opened, if the report is as its checkpoint says
pub taken_as : {F : Type 0} {S : state.Ghosts F} {rounds : Rounds} {t : Text} {k opened : Checkpoint} {there : Option ReportMark} {f : F} → opened ≡ fitted there k → (there ≡ None) × IsReady S rounds t k f → IsReady S rounds t opened f
taken_as {S = S} {rounds} {t} {k = k} {f = f} is up = subst (λ (x : Checkpoint). IsReady S rounds t x f) (sym (is ∙ ap (λ (o : Option ReportMark). fitted o k) up.0)) up.1

-- ---- opening

-- this checkpoint is there
pub settled_there : {F : Type 0} {S : state.Ghosts F} {rounds : Rounds} {t : Text} {k : Checkpoint} {l : F} {d : Content} → IsSoundAt rounds t d → IsAt k d → S.seen l ≡ d → Only (S.seen l) (S.may_leave l) → IsSettled S rounds t k l
settled_there {rounds = rounds} {t} {k} sound at same only =
    let h = holds_sound sound at in
    record { at = subst (IsAt k) (sym same) h.at; stands = subst (Stands rounds t k) (sym same) h.stands; only = only }

-- with the text that was said there
pub found_ready : {F : Type 0} {S : state.Ghosts F} {rounds : Rounds} {outcomes : Outcomes} {next : Checkpoint} {h : F} {t : Text} (kept : AreSound rounds outcomes) (d : Content) (was : outcomes d) → (kept d was).0 ≡ t → IsReady S rounds t next h
    → IsFoundReady S rounds outcomes kept next h
found_ready {S = S} {rounds} {next = next} {h} kept d was same ready =
    record { from = d; was = was; ready = subst (λ (t : Text). IsReady S rounds t next h) (sym same) ready }

module _ {F : Type 0} {may_leave : F → Outcomes} {moment : F → ℕ} {left_since : F → ℕ → Outcomes} {rounds : Rounds} {f l h : F} {d : Content} (only_now : OnlyNow may_leave moment left_since) (was : may_leave f d) (kept : AreSound rounds (may_leave f)) (p : Passes may_leave moment left_since Same f l) where
  -- what is called after a look
  pub found_on : {t : Text} → (kept d was).0 ≡ t → LeavesOnly moment left_since l h (IsSoundAt rounds t) → LeavesOnly moment left_since f h (IsFound rounds (may_leave f) kept)
  found_on {t} same q =
      joined_moments
      (unchanged only_now (λ c n. kept_found kept n) p)
      (leaves_weaker (λ c now. record { from = d; was = was; now = subst (λ (u : Text). IsSoundAt rounds u c) (sym same) now }) q)

  pub taken_moments : {S : state.Ghosts F} {k : Checkpoint} → IsAt k d → S.seen l ≡ d → Only (S.seen l) (S.may_leave l) → ((t : Text) → IsSettled S rounds t k l → LeavesOnly moment left_since l h (IsSoundAt rounds t)) → LeavesOnly moment left_since f h (IsFound rounds (may_leave f) kept)
  taken_moments at same only then = let sound = kept d was in found_on refl (then sound.0 (settled_there sound.1 at same only))

-- no checkpoint is there
pub shown_new : (rounds : Rounds) {c : Content} → IsSound rounds c → c.checkpoint ≡ None → IsNew [] c
shown_new rounds sound none = let new = new_sound rounds sound.1 none in record { report = new.report; closed = new.closed; said_is = refl }

-- and nothing was said
pub said_none : (rounds : Rounds) (c : Content) (sound : IsSound rounds c) → c.checkpoint ≡ None → sound.0 ≡ []
said_none rounds c sound none = (new_sound rounds sound.1 none).said_is

pub none_found : (c : Content) {found : Option Checkpoint} → MatchOption found (c.checkpoint ≡ None) (λ k. IsAt k c) → found ≡ None → c.checkpoint ≡ None
none_found c value is = subst (λ (o : Option Checkpoint). MatchOption o (c.checkpoint ≡ None) (λ k. IsAt k c)) is value

module _ {c : Content} {found : Option Checkpoint} {there : Checkpoint} (value : MatchOption found (c.checkpoint ≡ None) (λ k. IsAt k c)) (is : found ≡ Some there) where
  pub some_found : IsAt there c
  some_found = subst (λ (o : Option Checkpoint). MatchOption o (c.checkpoint ≡ None) (λ k. IsAt k c)) is value

  pub same_found : {k : Checkpoint} → k ≡ there → IsAt k c
  same_found same = subst (λ (x : Checkpoint). IsAt x c) (sym same) some_found
