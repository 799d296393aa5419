-- A report that is another one than its checkpoint says.
use Rattle.std.proofs.Common.{◌≡◌, ◌↔◌, inl, inr, ℕ, [], take, refl, sym, ◌∙◌, ap, subst, arith, Bool, true, false, Option, Some, None, Result, Ok, Err}
use Rattle.std.proofs.lemmas.List.{append-nil, take_all, length-take}
use Rattle.std.specs.Prelude.{IfSome, IsSome, IsTrue, OnOk, if◌then◌else◌, is_some, not}
use Rattle.ocfl_tree.specs.Place.{Text}
use Rattle.ocfl_night.specs.Looks.{Rounds}
use Rattle.ocfl_state.specs.{Checkpoint.{Checkpoint}, Content.{Content, with_report, is_closed}}
use Rattle.ocfl_state.specs.{Finding.{IsWhole, IsWholeWith, IfLost}, Pieces.{HasTail, summary_of, tail_of}}
use Rattle.ocfl_state.specs.declared.checkpoint_parts.{Phase.{Phase}, Phase.TheVariants.{Open, Closing}}
use Rattle.ocfl_identity.specs.declared.identity.Identity.{Identity}
use Rattle.ocfl_night.specs.declared.opening.Opened.{Opened}
use Rattle.ocfl_state.specs.declared.checkpoint_parts.ReportMark.{ReportMark}
use Rattle.ocfl_state.specs.declared.finding.FoundReport.{FoundReport}
use Rattle.ocfl_state.specs.declared.finding.FoundReport.TheVariants.{Whole, Lost}
use Rattle.ocfl_state.specs.declared.pieces.ReportDigests.{ReportDigests}
use Rattle.ocfl_night.specs.Sound.{Stands}
use Rattle.ocfl_night.specs.Steps.{BeginsAs, IsLost, IsOpened, fitted, settled, settled_in, shortened, what_is_left}
use Rattle.ocfl_night.proofs.Sound.{shut_closing}

-- ---- what is found

pub not_lost : (found : FoundReport) (digests : ReportDigests) (Holds : ReportDigests → Type 0) → found ≡ Lost digests → IsWholeWith Holds found → ⊥
not_lost found digests Holds is whole = subst (IsWholeWith Holds) is whole

pub lost_has : (found : FoundReport) (digests : ReportDigests) (Holds : ReportDigests → Type 0) → found ≡ Lost digests → IfLost Holds found → Holds digests
lost_has found digests Holds is lost = subst (IfLost Holds) is lost

pub whole_has_tail : (found : FoundReport) (digests : ReportDigests) (P : Type 0) → found ≡ Whole digests → (IsWhole found ↔ P) → P
whole_has_tail found digests P is fits = (subst (λ (f : FoundReport). IsWhole f ↔ P) is fits).0 tt

pub lost_has_none : (found : FoundReport) (digests : ReportDigests) (P : Type 0) → found ≡ Lost digests → (IsWhole found ↔ P) → P → ⊥
lost_has_none found digests P is fits h = (subst (λ (f : FoundReport). IsWhole f ↔ P) is fits).1 h

-- ---- what a checkpoint speaks of

-- in a sound folder it is there, unless it is closed
pub begins_as : (rounds : Rounds) (t : Text) (k : Checkpoint) (c : Content) → Stands rounds t k c → (k.phase ≡ Closing → is_closed c.closed k.cursor.cycle ≡ false) → BeginsAs k.report c.report
begins_as rounds t k c (inl o) there = record { text = o.text; is = o.report; begins = o.begins }
begins_as rounds t k c (inr (inl w)) there = record { text = c.report; is = w.report; begins = ([], sym (append-nil c.report)) }
begins_as rounds t k c (inr (inr w)) there = let shut = shut_closing w in let open_still = there w.phase in absurd (cc (shut, open_still))

-- ---- a report that is cut to the length of a mark

cut_has_tail : (mark : ReportMark) (report : Text) → HasTail mark (take mark.bytes report) → HasTail mark report
cut_has_tail mark report h = record {
  long = omega (arith, h.long, length-take mark.bytes report);
  tail = h.tail ∙ ap tail_of (take_all mark.bytes (take mark.bytes report) (omega (arith, length-take mark.bytes report)));
}

has_tail_cut : (mark : ReportMark) (report : Text) → HasTail mark report → HasTail mark (take mark.bytes report)
has_tail_cut mark report h = record {
  long = omega (arith, h.long, length-take mark.bytes report);
  tail = h.tail ∙ ap tail_of (sym (take_all mark.bytes (take mark.bytes report) (omega (arith, length-take mark.bytes report))));
}

-- ---- a folder that is settled

pub settled_open : (k : Checkpoint) (c : Content) {d : Content} → k.phase ≡ Open → d ≡ with_report (take k.report.bytes c.report) c → d ≡ settled k c
settled_open k c is cut = cut ∙ ap (λ (p : Phase). settled_in p k.report.bytes c) (sym is)

pub settled_closing : (k : Checkpoint) (c : Content) {d : Content} → k.phase ≡ Closing → d ≡ c → d ≡ settled k c
settled_closing k c is same = same ∙ ap (λ (p : Phase). settled_in p k.report.bytes c) (sym is)

in_phase : (p : Phase) (n : ℕ) (c : Content) → (settled_in p n c).closed ≡ c.closed
in_phase Open n c = refl
in_phase Closing n c = refl

pub settled_shut : (k : Checkpoint) (c : Content) {d : Content} → d ≡ settled k c → d.closed ≡ c.closed
settled_shut k c is = ap (λ (x : Content). x.closed) is ∙ in_phase k.phase k.report.bytes c

-- the report is as its mark says as it was before
tail_in : (p : Phase) (mark : ReportMark) (c : Content) → (HasTail mark (settled_in p mark.bytes c).report ↔ HasTail mark c.report)
tail_in Open mark c = (cut_has_tail mark c.report, has_tail_cut mark c.report)
tail_in Closing mark c = ((λ h. h), (λ h. h))

front_in : (p : Phase) (n : ℕ) (c : Content) → take n (settled_in p n c).report ≡ take n c.report
front_in Open n c = take_all n (take n c.report) (omega (arith, length-take n c.report))
front_in Closing n c = refl

module _ (k : Checkpoint) (c : Content) {d : Content} (found : Option ReportMark) (is : d ≡ settled k c) where
  pub lost_settled : (k.phase ≡ Closing → is_closed c.closed k.cursor.cycle ≡ false) → (IsSome found ↔ (HasTail k.report d.report → ⊥)) → (IsSome found ↔ IsLost k c)
  lost_settled there fits =
      let tails : (HasTail k.report d.report ↔ HasTail k.report c.report) = subst (λ (x : Content). HasTail k.report x.report ↔ HasTail k.report c.report) (sym is) (tail_in k.phase k.report c) in (
        (λ some. record { there = there; changed = λ h. fits.0 some (tails.1 h) }),
        (λ lost. fits.1 (λ h. lost.changed (tails.0 h))),
      )

  pub left_settled : IfSome found (λ there. there ≡ summary_of (take k.report.bytes d.report)) → IfSome found (λ there. there ≡ what_is_left k c)
  left_settled = by found
    where
      same : summary_of (take k.report.bytes d.report) ≡ what_is_left k c
      same = ap (λ (x : Content). summary_of (take k.report.bytes x.report)) is ∙ ap summary_of (front_in k.phase k.report.bytes c)

      by : (o : Option ReportMark) → IfSome o (λ there. there ≡ summary_of (take k.report.bytes d.report)) → IfSome o (λ there. there ≡ what_is_left k c)
      by None left = tt
      by (Some there) left = left ∙ same

-- ---- what is opened

pub lost_as : {P : Type 0} (there : Option ReportMark) (lost : Bool) → lost ≡ is_some there → (IsSome there ↔ P) → (IsTrue lost ↔ P)
lost_as None lost is fits = ((λ it. absurd (cc (it, is))), (λ h. absurd (cc (fits.1 h))))
lost_as (Some there) lost is fits = ((λ it. fits.0 refl), (λ h. is))

pub fitted_as : (k : Checkpoint) (there : Option ReportMark) (c : Content) (lost : Bool) → lost ≡ is_some there → IfSome there (λ m. m ≡ what_is_left k c) → fitted there k ≡ fitted (if lost then Some (what_is_left k c) else None) k
fitted_as k None c lost is left = ap (λ (b : Bool). fitted (if b then Some (what_is_left k c) else None) k) (sym is)
fitted_as k (Some there) c lost is left = ap (λ (m : ReportMark). shortened m k) left ∙ ap (λ (b : Bool). fitted (if b then Some (what_is_left k c) else None) k) (sym is)

module _ {id : Identity} {k : Checkpoint} {c : Content} {opened : Opened} where
  -- the same checkpoint in the same folder
  pub opened_as : {q : Checkpoint} {d : Content} → q ≡ k → d ≡ c → IsOpened id q d opened → IsOpened id k c opened
  opened_as {q} {d} same seen h = subst (λ (x : Content). IsOpened id k x opened) seen (subst (λ (x : Checkpoint). IsOpened id x d opened) same h)

  pub lost_opened : IsOpened id k c opened → IsLost k c → IsTrue opened.lost × (opened.checkpoint.whole ≡ false)
  lost_opened h lost =
      let it = h.lost.1 lost in
      (it, ap (λ (x : Checkpoint). x.whole) h.checkpoint ∙ ap (λ (b : Bool). (fitted (if b then Some (what_is_left k c) else None) k).whole) it)

pub first_not : {opened first : Opened} → opened ≡ first → first.lost ≡ false → IsTrue opened.lost → ⊥
first_not is at_first it = let not_so : true ≡ false = sym it ∙ ap (λ (o : Opened). o.lost) is ∙ at_first in absurd (cc not_so)

pub on_ok_always : {A E P : Type 0} (r : Result A E) → P → OnOk r P
on_ok_always (Ok x) p = p
on_ok_always (Err e) p = tt

-- ---- a report that may be closed already

pub not_answer : (answer shut : Bool) → answer ≡ shut → (IsTrue (not answer) ↔ (shut ≡ false))
not_answer true true same = ((λ it. absurd cc), (λ is. absurd cc))
not_answer true false same = absurd cc
not_answer false true same = absurd cc
not_answer false false same = ((λ it. refl), (λ is. refl))
