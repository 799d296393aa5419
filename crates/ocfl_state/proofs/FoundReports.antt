-- A report is found whole if it has the tail that a checkpoint says.
use Rattle.std.proofs.Common.{◌≡◌, ◌↔◌, ℕ, ◌-◌, ◌^◌, ◌<◌, [], length, take, drop, refl, sym, ◌∙◌, ap, subst, arith, length-append, true, false}
use Rattle.std.proofs.{lemmas.List.{length-take}, Math.Seq.{take-append_seam}}
use Rattle.std.specs.Prelude.{Option, Some, None, IsSome, IfSome}
use Rattle.ocfl_state.specs.{Content.{Bytes}, Crash.{Begins}, Finding.{IsWhole}}
use Rattle.ocfl_state.specs.Pieces.{no_pieces, Carries, PushesPart, HasTail, rest_of, tail_of, summary_of}
use Rattle.ocfl_state.specs.declared.checkpoint_parts.ReportMark.{ReportMark}
use Rattle.ocfl_state.specs.declared.finding.FoundReport.TheVariants.{Whole, Lost}
use Rattle.ocfl_state.specs.declared.pieces.ReportDigests.{ReportDigests}

-- the first bytes of a report were read
pub front_carried : (report : Bytes) (most count : ℕ) (a b : ReportDigests) → most < 2 ^ 64
    → Carries a [] → PushesPart (take (most - 0) (drop 0 report)) count a b → Carries b (take most report)
front_carried report most count a b short carried piece =
    let pushed = piece.pushed.1 no_pieces 0 0 [] carried.0 (omega (arith, short, length-take (most - 0) report)) (omega (arith, short, length-take (most - 0) report)) in
    subst (λ n. Carries b (take n report)) same (pushed, omega (arith, carried.1, piece.pushed.0, carried.0.bytes, pushed.bytes))
  where
    same : most - 0 ≡ most
    same = omega arith

-- ---- what was resumed

none_is_some : false ≡ true → ⊥
none_is_some same = cc

pub found_whole : (mark : ReportMark) (report : Bytes) (found : Option ReportDigests) (digests : ReportDigests) → found ≡ Some digests
    → (IsSome found ↔ HasTail mark report) → (IsWhole (Whole digests) ↔ HasTail mark report)
found_whole mark report found digests is fits =
    let here = subst (λ (o : Option ReportDigests). IsSome o ↔ HasTail mark report) is fits in (
      (λ whole. here.0 refl),
      (λ has. tt),
    )

pub found_lost : (mark : ReportMark) (report : Bytes) (found : Option ReportDigests) (digests : ReportDigests) → found ≡ None
    → (IsSome found ↔ HasTail mark report) → (IsWhole (Lost digests) ↔ HasTail mark report)
found_lost mark report found digests is fits =
    let here = subst (λ (o : Option ReportDigests). IsSome o ↔ HasTail mark report) is fits in (
      (λ whole. absurd whole),
      (λ has. none_is_some (here.1 has)),
    )

-- ---- a report that begins with the text of which a mark speaks

module _ (mark : ReportMark) (text report : Bytes) (same : mark ≡ summary_of text) (begins : Begins text report) where
  so_long : mark.bytes ≡ length text
  so_long = ap (λ (m : ReportMark). m.bytes) same

  front_is : take mark.bytes report ≡ text
  front_is = ap (λ n. take n report) so_long ∙ ap (take (length text)) begins.1 ∙ take-append_seam text begins.0

  pub begun_has_tail : HasTail mark report
  begun_has_tail = record {
    long = omega (arith, so_long, ap length begins.1, length-append text begins.0);
    tail = ap (λ (m : ReportMark). m.tail) same ∙ ap tail_of (sym front_is);
  }

  pub begun_carried : (found : Option ReportDigests) (digests : ReportDigests) → found ≡ Some digests
      → IfSome found (λ d. (t : Bytes) → mark ≡ summary_of t → rest_of t ≡ rest_of (take mark.bytes report) → Carries d t) → Carries digests text
  begun_carried found digests is carried =
      subst (λ (o : Option ReportDigests). IfSome o (λ d. (t : Bytes) → mark ≡ summary_of t → rest_of t ≡ rest_of (take mark.bytes report) → Carries d t)) is carried
      text same (ap rest_of (sym front_is))

  pub begun_is_found : (found : Option ReportDigests) → found ≡ None → (IsSome found ↔ HasTail mark report) → ⊥
  begun_is_found found is fits = none_is_some ((subst (λ (o : Option ReportDigests). IsSome o ↔ HasTail mark report) is fits).1 begun_has_tail)
