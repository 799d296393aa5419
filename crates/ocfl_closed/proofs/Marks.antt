-- Whether two marks are the same.
use Rattle.std.proofs.Common.{◌≡◌, ◌↔◌, ◌∙◌, Bool, true, false, IsTrue, refl, sym, ap, subst}
use Rattle.std.specs.Prelude.{◌==◌}
use Rattle.std.specs.Bool.{Decides}
use Rattle.std.proofs.lemmas.Bool.Decides.{Decides-and, Decides-like, Decides-eqb}
use Rattle.ocfl_tree.specs.Place.{Text, text_eq}
use Rattle.ocfl_tree.proofs.Places.{text_eq-Decides}
use Rattle.ocfl_state.specs.Pieces.{Checks, summary_of}
use Rattle.ocfl_state.specs.declared.checkpoint_parts.ReportMark.{ReportMark}
use Rattle.ocfl_state.specs.declared.checking.ReportCheck.{ReportCheck}
use Rattle.ocfl_closed.specs.{Files.{is_mark}, Internal.Checked.{HasTaken, is_met_by}}
use Rattle.ocfl_closed.specs.declared.check.ClosedCheck.{ClosedCheck}
use Rattle.ocfl_closed.specs.declared.check.ClosedCheck.TheVariants.{Kept}

is_mark-Decides : (m n : ReportMark) → Decides (is_mark m n) (m ≡ n)
is_mark-Decides m n = Decides-like (is_mark m n) (λ h. λ i. record { bytes = h.0 i; lines = h.1.0 i; pieces = h.1.1.0 i; tail = h.1.1.1 i })
    (λ e. (ap (λ (x : ReportMark). x.bytes) e, (ap (λ (x : ReportMark). x.lines) e, (ap (λ (x : ReportMark). x.pieces) e, ap (λ (x : ReportMark). x.tail) e))))
    (Decides-and (m.bytes == n.bytes) _ (Decides-eqb m.bytes n.bytes) (Decides-and (m.lines == n.lines) _ (Decides-eqb m.lines n.lines)
    (Decides-and (text_eq m.pieces n.pieces) (text_eq m.tail n.tail) (text_eq-Decides m.pieces n.pieces) (text_eq-Decides m.tail n.tail))))

one_decision : {P : Type 0} (b c : Bool) → Decides b P → Decides c P → b ≡ c
one_decision true c p q = sym (q.1 (p.0 refl))
one_decision false true p q = p.1 (q.0 refl)
one_decision false false p q = refl

pub is_decided : (m n : ReportMark) (b : Bool) → Decides b (m ≡ n) → b ≡ is_mark m n
is_decided m n b d = one_decision b (is_mark m n) d (is_mark-Decides m n)

-- a check that compares with a mark
pub met_by_mark : (self : ClosedCheck) (mark : ReportMark) (check : ReportCheck) (report : Text) (result : Bool) → self ≡ Kept mark check
    → ((m : ReportMark) (r : Text) → Checks m check r → (IsTrue result ↔ (m ≡ summary_of r))) → HasTaken self report → result ≡ is_met_by self report
met_by_mark self mark check report result e says taken =
    is_decided mark (summary_of report) result (says mark report (subst (λ k. HasTaken k report) e taken)) ∙ sym (ap (λ k. is_met_by k report) e)
