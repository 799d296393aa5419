-- How much a run may spend, and how many files it may start.
use Rattle.std.specs.Prelude.{ℕ, ◌^◌, ◌≤◌}

-- the most that a run may be allowed to spend, and the most files that it may be allowed to start
abbrev pub max_limit : ℕ
max_limit = 2 ^ 62

-- a run may spend at least 1, and start at least 1 file
abbrev pub IsLimit : ℕ → Type 0
IsLimit most = (1 ≤ most) × (most ≤ max_limit)
