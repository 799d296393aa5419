-- Numbers in two decimal digits.
use Rattle.std.proofs.Common.{◌≡◌, ℕ, ◌+◌, ◌/◌, ◌%◌, ◌<◌, ◌∷◌, [], ap, get_or, arith}
use Rattle.ocfl_arguments.specs.TimeOfDay.{two_digits}

-- and what is in two digits is a digit and a digit
pub tens_of : (a b n : ℕ) → n < 100 → a ∷ b ∷ [] ≡ two_digits n → (n / 10 < 10) × (a ≡ 48 + n / 10)
tens_of a b n l e = (omega (arith, l), ap (λ t. get_or t 0 0) e)

pub ones_of : (a b n : ℕ) → n < 100 → a ∷ b ∷ [] ≡ two_digits n → (n % 10 < 10) × (b ≡ 48 + n % 10)
ones_of a b n l e = (omega arith, ap (λ t. get_or t 1 0) e)
