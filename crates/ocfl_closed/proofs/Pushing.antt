-- One read of a report, and the digests after it.
use Rattle.std.proofs.Common.{◌≡◌, ℕ, ◌+◌, ◌≤◌, ◌<◌, ◌^◌, ◌++◌, length, take, drop, sym, ap, subst, ◌∙◌, arith, length-append}
use Rattle.std.proofs.lemmas.List.{length-take-le, length-take, length-drop, take_all}
use Rattle.ocfl_state.specs.{Content.{Bytes}, Calls.{IsReadOf}, Pieces.{Carries}, declared.pieces.ReportDigests.{ReportDigests}}
use Rattle.ocfl_state.proofs.PieceLaws.{take-more}
use Rattle.ocfl_closed.specs.Internal.{IsPushed}

pub part_read : (report : Bytes) (start count room : ℕ) (buffer : Bytes) (old new : ReportDigests) → length report < 2 ^ 63 → start ≤ length report → 0 < room → count ≤ length buffer
    → IsReadOf report start (take count buffer) room → Carries old (take start report)
    → ((text : Bytes) → Carries old text → length (text ++ take count buffer) < 2 ^ 64 → Carries new (text ++ take count buffer)) → IsPushed report start count new
part_read report start count room buffer old new short le some within read carried pushes = record {
  within = fits;
  carries = subst (λ (xs : Bytes). Carries new xs) (ap (λ (xs : Bytes). take start report ++ xs) same ∙ sym (take-more report start count)) (pushes (take start report) carried bounded);
  end = λ none. let empty = ap (λ (xs : Bytes). length xs) (read.end (ap (λ n. take n buffer) none) some) in let left = length-drop start report in omega (arith, empty, left);
}
  where
    long : length (take count buffer) ≡ count
    long = length-take-le count buffer within

    same : take count buffer ≡ take count (drop start report)
    same = read.are ∙ ap (λ n. take n (drop start report)) long

    many : length (take count (drop start report)) ≡ count
    many = sym (ap (λ (xs : Bytes). length xs) same) ∙ long

    fits : start + count ≤ length report
    fits = let least = length-take count (drop start report) in let left = length-drop start report in omega (arith, many, least, left, le)

    bounded : length (take start report ++ take count buffer) < 2 ^ 64
    bounded = let both = length-append (take start report) (take count buffer) in let front = length-take start report in omega (arith, both, front, long, fits, short)

-- the last read gave nothing
pub all_read : (report : Bytes) (start count : ℕ) (digests : ReportDigests) → count ≡ 0 → IsPushed report start count digests → Carries digests report
all_read report start count digests none is = subst (λ (xs : Bytes). Carries digests xs) (take_all (start + count) report (let over = is.end none in omega (arith, over))) is.carries
