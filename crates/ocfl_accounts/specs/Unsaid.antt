-- Which closed cycles were not said.
use Rattle.std.specs.Prelude.{◌≡◌, ◌⊎◌, ℕ, ◌-◌, ◌<◌, ◌≤◌, ◌&&◌, Bool, true, false, not, max}
use Rattle.ocfl_accounts.specs.{Cycle.{is_there}, Kept.{Kept, has_account}}

-- its report is there, and its account is not
abbrev pub is_unsaid : Kept → ℕ → Bool
is_unsaid k cycle = not (has_account k cycle) && is_there (k.sights cycle)

-- of the cycles from a number on, and below another one, none was left unsaid
abbrev pub NoneUnsaid : Kept → ℕ → ℕ → Type 0
NoneUnsaid k low high = (c : ℕ) → low ≤ c → c < high → is_unsaid k c ≡ false

-- one that was not said is looked for in the 1,000 cycles before a number
abbrev pub oldest : ℕ → ℕ
oldest cycle = max 1 (cycle - 1000)

-- it is one of those, and was not said; or it is that number
abbrev pub IsFound : Kept → ℕ → ℕ → Type 0
IsFound k first cycle = (first ≡ cycle) ⊎ ((oldest cycle ≤ first) × (is_unsaid k first ≡ true))
