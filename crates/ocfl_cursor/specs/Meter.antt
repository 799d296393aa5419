-- What a run has spent, and how many files it has started.
use Rattle.std.specs.Prelude.{ℕ, ◌^◌, ◌+◌, ◌<◌, ◌≤◌, ◌==◌, if◌then◌else◌}
use Rattle.ocfl_cursor.specs.{Limits.{IsLimit}, declared.limits.Limits.{Limits}}

-- what auditing one file costs at most: its bytes, at most 2 ^ 62, and one more
abbrev pub max_cost : ℕ
max_cost = 2 ^ 62 + 1

-- an item that costs something is one file, and another is none
abbrev pub files_of : ℕ → ℕ
files_of cost = if cost == 0 then 0 else 1

-- the limits of a run, what it has spent, and how many files it has started
pub record Meter : Type 0 where
  pub limits : Limits
  pub spent : ℕ
  pub files : ℕ

-- a run passes its budget by the last file that it started, at most; it starts no more files than
-- their limit, and each costs something
pub record IsMeter (m : Meter) : Type 0 where
  pub budget : IsLimit m.limits.budget
  pub limit : IsLimit m.limits.files
  pub spent : m.spent ≤ m.limits.budget + 2 ^ 62
  pub files : m.files ≤ m.limits.files
  pub paid : m.files ≤ m.spent

-- a file may be started: less than the budget is spent, and fewer files than their limit are
-- started
abbrev pub MayStart : Meter → Type 0
MayStart m = (m.spent < m.limits.budget) × (m.files < m.limits.files)
