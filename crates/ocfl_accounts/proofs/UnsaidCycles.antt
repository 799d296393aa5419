-- One more cycle that was not left unsaid.
use Rattle.std.proofs.Common.{◌≡◌, ◌⊎◌, inl, inr, ℕ, ◌+◌, ◌<◌, ◌≤◌, false, ap, ◌∙◌, arith}
use Rattle.std.proofs.Math.Nat.{eq-or-lt_of_le}
use Rattle.ocfl_accounts.specs.{Kept.{Kept}, Unsaid.{NoneUnsaid, is_unsaid}}

pub none_unsaid : (k : Kept) (low : ℕ) → NoneUnsaid k low low
none_unsaid k low = λ c from below. absurd (omega (arith, from, below))

pub one_more : (k : Kept) (low n : ℕ) → is_unsaid k n ≡ false → NoneUnsaid k low n → NoneUnsaid k low (n + 1)
one_more k low n said h = λ c from below. let upto : c ≤ n = omega (arith, below) in by c from (eq-or-lt_of_le upto)
  where
    by : (c : ℕ) → low ≤ c → (c ≡ n) ⊎ (c < n) → is_unsaid k c ≡ false
    by c from (inl same) = ap (is_unsaid k) same ∙ said
    by c from (inr earlier) = h c from earlier

-- each of those that were looked at was said
pub all_said : (k : Kept) (low n high : ℕ) → (n ≤ high) ⊎ (n ≡ low) → high ≤ n → NoneUnsaid k low n → NoneUnsaid k low high
all_said k low n high bound over h = λ c from below. h c from (omega (arith, below, over))
