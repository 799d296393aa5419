-- A report that is compared before it is closed.
use Rattle.std.proofs.Common.{◌≡◌, ◌⊎◌, ◌↔◌, inl, inr, ℕ, Bool, true, false, refl, sym, ◌∙◌, subst}
use Rattle.std.specs.Prelude.{IsTrue}
use Rattle.ocfl_tree.specs.Place.{Text}
use Rattle.ocfl_night.specs.Looks.{Rounds}
use Rattle.ocfl_state.specs.{Checkpoint.{Checkpoint}, Content.{Content, is_closed}}
use Rattle.ocfl_state.specs.{Crash.{Outcomes, Same, Passes}, Pieces.{summary_of}}
use Rattle.ocfl_state.specs.declared.folder.StateFolder as state
use Rattle.ocfl_state.specs.declared.checkpoint_parts.{Phase.TheVariants.{Closing}, ReportMark.{ReportMark}}
use Rattle.ocfl_night.specs.Sound.{IsClosing, IsMoved, IsReady, IsSoundAt}
use Rattle.ocfl_night.specs.Steps.{closes_whole, IsMoveDone, MayMoveAt}
use Rattle.ocfl_night.proofs.Moments.{same_first, weaker}
use Rattle.ocfl_night.proofs.Sound.{closing_of, move_done, move_holds, ready_holds, shut_closing, sound_holds}

-- ---- what the comparison answers

pub as_whole : {P : Type 0} (answer whole : Bool) → (IsTrue answer ↔ (IsTrue whole × P)) → P → answer ≡ whole
as_whole true true fits same = refl
as_whole true false fits same = let there : false ≡ true = (fits.0 refl).0 in absurd cc
as_whole false true fits same = let there : false ≡ true = fits.1 (refl, same) in absurd cc
as_whole false false fits same = refl

pub not_whole : {P : Type 0} (answer whole : Bool) → (IsTrue answer ↔ (IsTrue whole × P)) → (P → ⊥) → answer ≡ false
not_whole true whole fits other = absurd (other (fits.0 refl).1)
not_whole false whole fits other = refl

-- asked of a checkpoint's own values
pub fits_of : {answer asked whole : Bool} {mark report there : ReportMark} → asked ≡ whole → mark ≡ report → (IsTrue answer ↔ (IsTrue asked × (mark ≡ there))) → (IsTrue answer ↔ (IsTrue whole × (report ≡ there)))
fits_of {answer} {asked} {report = report} {there} one two fits =
    subst (λ (w : Bool). IsTrue answer ↔ (IsTrue w × (report ≡ there))) one (subst (λ (m : ReportMark). IsTrue answer ↔ (IsTrue asked × (m ≡ there))) two fits)

-- ---- a report is moved, or was

both_ways : true ≡ false → ⊥
both_ways same = cc

pub done_anyway : (cycle : ℕ) (answer whole : Bool) (d c : Content) → is_closed d.closed cycle ≡ true → IsMoveDone cycle answer d c → IsMoveDone cycle whole d c
done_anyway cycle answer whole d c shut (inl was) = inl was
done_anyway cycle answer whole d c shut (inr now) = absurd (both_ways (sym shut ∙ now.0))

may_anyway : (cycle : ℕ) (answer whole : Bool) (shown d c : Content) → is_closed shown.closed cycle ≡ true → MayMoveAt cycle answer shown d c → MayMoveAt cycle whole shown d c
may_anyway cycle answer whole shown d c shut (inl same) = inl same
may_anyway cycle answer whole shown d c shut (inr now) = absurd (both_ways (sym shut ∙ now.0))

-- at a folder of which a call changed nothing before, and of a checkpoint's own cycle
pub done_of : (answer : Bool) {asked cycle : ℕ} {shown d c : Content} → asked ≡ cycle → shown ≡ d → IsMoveDone asked answer shown c → IsMoveDone cycle answer d c
done_of answer {asked} {d = d} {c} one two done = subst (λ (n : ℕ). IsMoveDone n answer d c) one (subst (λ (x : Content). IsMoveDone asked answer x c) two done)

pub move_done_as : (k : Checkpoint) (answer : Bool) (d c : Content) → IsTrue (is_closed d.closed k.cursor.cycle) ⊎ (k.report ≡ summary_of d.report)
    → (IsTrue answer ↔ (IsTrue (closes_whole k) × (k.report ≡ summary_of d.report))) → IsMoveDone k.cursor.cycle answer d c → IsMoveDone k.cursor.cycle (closes_whole k) d c
move_done_as k answer d c (inl shut) fits done = done_anyway k.cursor.cycle answer (closes_whole k) d c shut done
move_done_as k answer d c (inr same) fits done = subst (λ (w : Bool). IsMoveDone k.cursor.cycle w d c) (as_whole answer (closes_whole k) fits same) done

module _ {F : Type 0} {may_leave : F → Outcomes} {moment : F → ℕ} {left_since : F → ℕ → Outcomes} where
  may_move_as : (k : Checkpoint) (answer : Bool) (shown : Content) {f g : F} → IsTrue (is_closed shown.closed k.cursor.cycle) ⊎ (k.report ≡ summary_of shown.report)
      → (IsTrue answer ↔ (IsTrue (closes_whole k) × (k.report ≡ summary_of shown.report)))
      → Passes may_leave moment left_since (MayMoveAt k.cursor.cycle answer shown) f g → Passes may_leave moment left_since (MayMoveAt k.cursor.cycle (closes_whole k) shown) f g
  may_move_as k answer shown (inl shut) fits p = weaker (λ d c. may_anyway k.cursor.cycle answer (closes_whole k) shown d c shut) p
  may_move_as k answer shown {f} {g} (inr same) fits p = subst (λ (w : Bool). Passes may_leave moment left_since (MayMoveAt k.cursor.cycle w shown) f g) (as_whole answer (closes_whole k) fits same) p

  -- after a call that changed nothing
  pub moved_as : (k : Checkpoint) (answer : Bool) {asked : ℕ} {shown there : Content} {f g h : F} → IsTrue (is_closed shown.closed k.cursor.cycle) ⊎ (k.report ≡ summary_of shown.report)
      → (IsTrue answer ↔ (IsTrue (closes_whole k) × (k.report ≡ summary_of shown.report))) → asked ≡ k.cursor.cycle → there ≡ shown
      → Passes may_leave moment left_since Same f g → Passes may_leave moment left_since (MayMoveAt asked answer there) g h → Passes may_leave moment left_since (MayMoveAt k.cursor.cycle (closes_whole k) shown) f h
  moved_as k answer {asked} {shown} {g = g} {h} either fits one two p q =
      let moves = subst (λ (n : ℕ). Passes may_leave moment left_since (MayMoveAt n answer shown) g h) one (subst (λ (x : Content). Passes may_leave moment left_since (MayMoveAt asked answer x) g h) two q) in
      same_first (λ d c same. inl same) p (may_move_as k answer shown either fits moves)

-- a checkpoint of a cycle that has ended has the mark of its report, or that is closed
module _ {F : Type 0} {S : state.Ghosts F} {rounds : Rounds} {t : Text} {k : Checkpoint} {f : F} where
  pub ready_to_close : k.phase ≡ Closing → IsReady S rounds t k f → IsTrue (is_closed (S.seen f).closed k.cursor.cycle) ⊎ (k.report ≡ summary_of (S.seen f).report)
  ready_to_close is r = by (closing_of is r.stands)
    where
      by : IsClosing rounds t k (S.seen f) ⊎ IsMoved rounds t k (S.seen f) → IsTrue (is_closed (S.seen f).closed k.cursor.cycle) ⊎ (k.report ≡ summary_of (S.seen f).report)
      by (inl w) = inr w.report
      by (inr w) = inl (shut_closing w)

  module _ (is : k.phase ≡ Closing) (said : k.said ≡ k.report.bytes) (r : IsReady S rounds t k f) where
    pub move_sound : (d c : Content) → S.may_leave f d → MayMoveAt k.cursor.cycle (closes_whole k) (S.seen f) d c → IsSoundAt rounds t c
    move_sound d c left may = sound_holds (move_holds is said (ready_holds r d left) (r.only d left) may)

    pub is_moved : {c : Content} → (IsTrue (is_closed (S.seen f).closed k.cursor.cycle) ⊎ (k.report ≡ summary_of (S.seen f).report) → IsMoveDone k.cursor.cycle (closes_whole k) (S.seen f) c) → IsMoved rounds t k c
    is_moved done = move_done is said r.stands (done (ready_to_close is r))
