-- Whether a next run may begin, and what it may spend, by what the runs before it did.
use Rattle.std.specs.Prelude.{ℕ, ◌-◌, ◌*◌, ◌/◌, ◌^◌, ◌==◌, ◌||◌, Bool, true, Option, Some, None, if◌then◌else◌, max, min, nat_lt, unwrap_or}
use Rattle.ocfl_night.specs.Done.{Done}
use Rattle.ocfl_terms.specs.declared.plan.Plan.{Plan}

-- whether an end has not come
abbrev pub is_before : ℕ → Option ℕ → Bool
is_before now None = true
is_before now (Some end) = nat_lt now end

-- a minute, or what is left until the end
abbrev pub seconds_left : Option ℕ → ℕ → ℕ
seconds_left None now = 60
seconds_left (Some end) now = min (end - now) 60

-- what runs spend in so many seconds, if those before spent so much in so long
abbrev pub cost_in : ℕ → ℕ → ℕ → Option ℕ
cost_in seconds spent elapsed = if spent == 0 || elapsed == 0 then None else Some (min (spent * seconds) (2 ^ 64 - 1) / elapsed)

-- no more than that, and at least 1
abbrev pub at_most : ℕ → Option ℕ → ℕ
at_most most None = most
at_most most (Some cost) = min most (max cost 1)

abbrev pub paced : ℕ → ℕ → ℕ → ℕ → Option ℕ → ℕ
paced most spent began now end = at_most most (cost_in (seconds_left end now) spent (now - began))

-- ---- the limits of a run that begins now

abbrev pub budget_at : Plan → Done → ℕ → ℕ
budget_at plan d now = paced plan.slice_budget d.spent (unwrap_or d.began now) now plan.end

-- how many files it may start
abbrev pub files_at : Plan → Done → ℕ
files_at plan d = fewer plan.files
  where
    fewer : Option ℕ → ℕ
    fewer None = plan.slice_files
    fewer (Some most) = min (most - d.files) plan.slice_files
