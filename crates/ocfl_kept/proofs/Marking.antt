-- A report is read to its end, and compared with a mark.
use Rattle.std.proofs.Common.{◌≡◌, ◌<◌, ◌≤◌, ◌+◌, ◌^◌, ◌++◌, ◌∙◌, ◌↔◌, ℕ, [], arith, sym, ap, subst, refl, append-nil, append_assoc, length, take, length-append}
use Rattle.std.proofs.lemmas.List.{length-take-le}
use Rattle.ocfl_tree.specs.Place.{Text}
use Rattle.ocfl_state.specs.{Pieces.{Checks, summary_of}, declared.checking.ReportCheck.{ReportCheck}}
use Rattle.ocfl_state.specs.declared.checkpoint_parts.ReportMark.{ReportMark}

-- so many bytes of a report were read and pushed, and these are left
pub record IsChecked (mark : ReportMark) (count : ℕ) (check : ReportCheck) (whole left : Text) : Type 0 where
  pub done : Text
  pub is : whole ≡ done ++ left
  pub long : length done ≡ count
  pub checks : Checks mark check done

pub begun : (mark : ReportMark) (check : ReportCheck) (whole : Text) → Checks mark check [] → IsChecked mark 0 check whole whole
begun mark check whole h = record { done = []; is = refl; long = refl; checks = h }

-- some more were
pub checked_on : (mark : ReportMark) (n count : ℕ) (old new : ReportCheck) (whole left rest buffer : Text) → IsChecked mark n old whole left → length whole < 2 ^ 63 → count ≤ length buffer
    → left ≡ take count buffer ++ rest → ((m : ReportMark) (report : Text) → Checks m old report → length (report ++ take count buffer) < 2 ^ 64 → Checks m new (report ++ take count buffer))
    → IsChecked mark (n + count) new whole rest
checked_on mark n count old new whole left rest buffer h short fits e pushes =
    let piece = take count buffer in
    let is : whole ≡ (h.done ++ piece) ++ rest = h.is ∙ ap (λ t. h.done ++ t) e ∙ sym (append_assoc h.done piece rest) in
    let size : length piece ≡ count = length-take-le count buffer fits in
    let sum : length (h.done ++ piece) ≡ length h.done + length piece = length-append h.done piece in
    let all : length ((h.done ++ piece) ++ rest) ≡ length (h.done ++ piece) + length rest = length-append (h.done ++ piece) rest in
    let long : length whole ≡ length ((h.done ++ piece) ++ rest) = ap length is in
    record {
      done = h.done ++ piece;
      is = is;
      long = let there = h.long in omega (arith, size, sum, there);
      checks = pushes mark h.done h.checks (omega (arith, all, long, short));
    }

-- all were
pub checked_all : (mark : ReportMark) (n : ℕ) (check : ReportCheck) (whole left : Text) (is : Type 0) → IsChecked mark n check whole left → left ≡ [] → ((m : ReportMark) (report : Text) → Checks m check report → is ↔ (m ≡ summary_of report))
    → is ↔ (mark ≡ summary_of whole)
checked_all mark n check whole left is h none met =
    let same : h.done ≡ whole = sym (append-nil h.done) ∙ ap (λ t. h.done ++ t) (sym none) ∙ sym h.is in
    subst (λ (t : Text). is ↔ (mark ≡ summary_of t)) same (met mark h.done h.checks)

-- not so many are there
pub not_so_many : (mark : ReportMark) (n : ℕ) (check : ReportCheck) (whole left : Text) → IsChecked mark n check whole left → length whole < 2 ^ 63 → 9223372036854775808 ≤ n → ⊥
not_so_many mark n check whole left h short many =
    let long : length whole ≡ length (h.done ++ left) = ap length h.is in
    let sum : length (h.done ++ left) ≡ length h.done + length left = length-append h.done left in
    let there = h.long in
    omega (arith, long, sum, there, short, many)

-- nothing is left where nothing more was read
pub nothing_left : (count : ℕ) (left rest buffer : Text) → left ≡ take count buffer ++ rest → count ≡ 0 → rest ≡ [] → left ≡ []
nothing_left count left rest buffer e none end = e ∙ ap (λ n. take n buffer ++ rest) none ∙ end
