-- Bytes are appended between calls that change nothing, and the digests of the report go on.
use Rattle.std.proofs.Common.{◌≡◌, inl, inr, ⊎_elim, ℕ, ◌^◌, ◌<◌, ◌≤◌, ◌++◌, Bool, false, length, take, refl, sym, ap, subst, arith}
use Rattle.std.proofs.lemmas.List.{take_all}
use Rattle.std.specs.Prelude.{Option, Some, IfSome, IsTrue, Err}
use Rattle.ocfl_state.specs.{Calls.{HasCauseOr}, Content.{Bytes, Content, with_report}}
use Rattle.ocfl_state.specs.Crash.{Outcomes, Same, MayTear, After, Passes}
use Rattle.ocfl_state.specs.Pieces.{Carries, rest_of, summary_of}
use Rattle.ocfl_state.specs.declared.checkpoint_parts.ReportMark.{ReportMark}
use Rattle.ocfl_state.specs.declared.pieces.ReportDigests.{ReportDigests}
use Rattle.ocfl_state.specs.declared.folder.FolderTrouble.TheVariants.{Failed}

-- ---- what a crash may tear

same_torn : (n m : ℕ) (d c : Content) → Same d c → MayTear n m d c
same_torn n m d c same = subst (λ (x : Content). MayTear n m d x) (sym same) (record { checkpoint = refl; closed = refl; front = λ text le begins. begins; no_longer = omega arith })

module _ {F : Type 0} {may_leave : F → Outcomes} {moment : F → ℕ} {left_since : F → ℕ → Outcomes} where
  -- such a call before
  pub then_torn : (n m : ℕ) {a b z : F} → Passes may_leave moment left_since Same a b → Passes may_leave moment left_since (MayTear n m) b z → Passes may_leave moment left_since (MayTear n m) a z
  then_torn n m {a} {b} {z} first second = record {
    later = omega (arith, first.later, second.later);
    now = λ c may. back c (second.now c may);
    meanwhile = λ t c le since. ⊎_elim
        (λ before. ⊎_elim (λ was. inl was) (λ from. inr (from.0, from.1, same_torn n m from.0 c from.2)) (first.meanwhile t c le before))
        (λ after. inr (back c after))
        (second.meanwhile t c (omega (arith, le, first.later)) since);
    keeps = λ t c le since. second.keeps t c (omega (arith, le, first.later)) (first.keeps t c le since);
  }
    where
      back : (c : Content) → After (MayTear n m) (may_leave b) c → After (MayTear n m) (may_leave a) c
      back c (d, may, torn) = let before = first.now d may in (before.0, before.1, subst (λ (x : Content). MayTear n m x c) before.2 torn)

  -- such a call after
  pub torn_then : (n m : ℕ) {a b z : F} → Passes may_leave moment left_since (MayTear n m) a b → Passes may_leave moment left_since Same b z → Passes may_leave moment left_since (MayTear n m) a z
  torn_then n m {a} {b} {z} first second = record {
    later = omega (arith, first.later, second.later);
    now = λ c may. back c (second.now c may);
    meanwhile = λ t c le since. ⊎_elim
        (λ before. first.meanwhile t c le before)
        (λ after. inr (back c after))
        (second.meanwhile t c (omega (arith, le, first.later)) since);
    keeps = λ t c le since. second.keeps t c (omega (arith, le, first.later)) (first.keeps t c le since);
  }
    where
      back : (c : Content) → After Same (may_leave b) c → After (MayTear n m) (may_leave a) c
      back c (d, may, same) = let before = first.now d may in (before.0, before.1, subst (λ (x : Content). MayTear n m before.0 x) (sym same) before.2)

  -- bytes were appended after such calls
  pub appended : (bytes : Bytes) (s t : Content) {a b z : F} → Passes may_leave moment left_since Same a b → t ≡ s
      → Passes may_leave moment left_since (MayTear (length t.report) (length (t.report ++ bytes))) b z
      → Passes may_leave moment left_since (MayTear (length s.report) (length (s.report ++ bytes))) a z
  appended bytes s t {a} {b} {z} first seen second =
      then_torn (length s.report) (length (s.report ++ bytes)) first
      (subst (λ (x : Content). Passes may_leave moment left_since (MayTear (length x.report) (length (x.report ++ bytes))) b z) seen second)

  -- and such calls came after
  pub appended_then : (bytes : Bytes) (s t : Content) {a b y z : F} → Passes may_leave moment left_since Same a b → t ≡ s
      → Passes may_leave moment left_since (MayTear (length t.report) (length (t.report ++ bytes))) b y → Passes may_leave moment left_since Same y z
      → Passes may_leave moment left_since (MayTear (length s.report) (length (s.report ++ bytes))) a z
  appended_then bytes s t first seen second third = torn_then (length s.report) (length (s.report ++ bytes)) (appended bytes s t first seen second) third

-- ---- the digests

-- those that were resumed are carried on
pub resumed_on : (mark : ReportMark) (report : Bytes) (found : Option ReportDigests) (digests : ReportDigests) → mark ≡ summary_of report → found ≡ Some digests
    → IfSome found (λ d. (text : Bytes) → mark ≡ summary_of text → rest_of text ≡ rest_of (take mark.bytes report) → Carries d text) → Carries digests report
resumed_on mark report found digests same is carried =
    subst (λ (o : Option ReportDigests). IfSome o (λ d. (text : Bytes) → mark ≡ summary_of text → rest_of text ≡ rest_of (take mark.bytes report) → Carries d text)) is carried
    report same (ap rest_of (sym (take_all mark.bytes report (omega (arith, ap (λ (m : ReportMark). m.bytes) same)))))

-- the report is as long as the range of its length allows
pub in_range : (c d : Content) (bytes : Bytes) (long : ℕ) → c ≡ with_report (d.report ++ bytes) d → long ≡ length c.report → long < 2 ^ 64 → length (d.report ++ bytes) < 2 ^ 64
in_range c d bytes long grown is short = omega (arith, is, short, ap (λ (x : Content). length x.report) grown)

-- ---- what is answered

pub not_both : (b : Bool) → IsTrue b → b ≡ false → ⊥
not_both b is not = absurd (cc (is, not))

-- `Failed` after three calls, for that reason
pub fails_for : {T : Type 0} {Reason : Type 0} (n m k l : ℕ) → n ≤ m → m ≤ k → k ≤ l → Reason → HasCauseOr {T = T} Reason n l (Err Failed)
fails_for n m k l first second third reason = record {
  later = omega arith;
  failed = λ is. inr reason;
  full = λ is. absurd (cc is);
  not_taken = λ is. absurd (cc is);
}
