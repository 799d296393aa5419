-- A list that is taken piece by piece, and what holds of a refusal.
use Rattle.std.proofs.Common.{◌≡◌, ℕ, ◌+◌, ◌-◌, ◌≤◌, List, ◌++◌, length, take, drop, sym, ap, ◌∙◌, arith, length-drop}
use Rattle.std.proofs.{lemmas.List.{take_rest}, Math.Seq.{take-add}}

-- a beginning, and then a beginning of the rest
pub take_both : (xs : List ℕ) (i n : ℕ) → take i xs ++ take n (take (length xs - i) (drop i xs)) ≡ take (i + n) xs
take_both xs i n = ap (λ t. take i xs ++ take n t) (take_rest xs i) ∙ sym (take-add i n xs)

-- a beginning of the rest ends within the whole
pub within_both : (xs : List ℕ) (i n : ℕ) → i ≤ length xs → n ≤ length (take (length xs - i) (drop i xs)) → i + n ≤ length xs
within_both xs i n h k =
    let rest = ap length (take_rest xs i) ∙ length-drop i xs in
    omega (arith, rest)
