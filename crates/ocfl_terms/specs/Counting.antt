-- Counts of a night.
use Rattle.std.specs.Prelude.{ℕ, ◌+◌, ◌^◌, ◌-◌, min}

-- they end at 2^64 - 1
abbrev pub counted : ℕ → ℕ → ℕ
counted old more = min (old + more) (2 ^ 64 - 1)
