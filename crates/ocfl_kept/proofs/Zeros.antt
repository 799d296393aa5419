-- A number that is written with zeros before it.
use Rattle.std.proofs.Common.{◌≡◌, ◌-◌, ◌++◌, ◌∙◌, ℕ, [], ap, append-nil, arith, length, replicate}
use Rattle.std.specs.Fmt.{padded_integral, styled_decimal, format_spec, char_count, decimal}
use Rattle.ocfl_kept.specs.FilePaths.{six_digits}

-- what `{:06}` writes
pub six_digits_are : (n : ℕ) → styled_decimal (format_spec 32 0 4 6 18446744073709551615) n ≡ six_digits n
unfolding padded_integral char_count
six_digits_are n =
    let same : ((6 - length (decimal n)) - 0) - 0 ≡ 6 - length (decimal n) = omega arith in
    ap (λ k. replicate k 48 ++ (decimal n ++ [])) same ∙ ap (λ t. replicate (6 - length (decimal n)) 48 ++ t) (append-nil (decimal n))
