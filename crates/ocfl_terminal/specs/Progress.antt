-- What progress shows of a cycle.
use Rattle.std.specs.Prelude.{ℕ, ◌*◌, ◌/◌, ◌==◌, Option, Some, None, if◌then◌else◌, min}
use Rattle.ocfl_cursor.specs.Cursor.{Cursor, State, ended}

-- a cost in hundredths of what the last cycle cost, if that is known and not 0: no more than three digits
abbrev pub share : ℕ → Option ℕ → Option ℕ
share cost None = None
share cost (Some last) = if last == 0 then None else Some (min (cost * 100 / last) 999)

-- what a cycle has spent that is over
abbrev pub spent_at : State → ℕ → Option ℕ
spent_at ended spent = Some spent
spent_at _ spent = None

abbrev pub cost_of : Option Cursor → Option ℕ
cost_of (Some c) = spent_at c.state c.spent
cost_of None = None
