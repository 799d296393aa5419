-- What is seen of a closed cycle.
use Rattle.std.specs.Prelude.{◌≡◌, ℕ, ⊤}
use Rattle.ocfl_accounts.specs.Cycle.{Sight, there, away}
use Rattle.ocfl_accounts.specs.declared.closed.Look.{Look}
use Rattle.ocfl_accounts.specs.declared.closed.Look.TheVariants.{There, Away}

abbrev pub sight_of : Look → Sight
sight_of (There c) = there c
sight_of (Away whole lost) = away whole lost

abbrev pub IsOf : ℕ → Look → Type 0
IsOf cycle (There c) = c.cycle ≡ cycle
IsOf cycle (Away whole lost) = ⊤

-- a look shows what is there, which is of this cycle
abbrev pub IsSight : ℕ → Sight → Look → Type 0
IsSight cycle sight look = (sight ≡ sight_of look) × IsOf cycle look
