-- What something hears of the runs of a night.
use Rattle.std.specs.Prelude.{ℕ, List, [], ◌∷◌, if◌then◌else◌}
use Rattle.ocfl_terms.specs.declared.made.Made.{Made}
use Rattle.ocfl_plan.specs.Status.{is_kept, run_status}

-- the clock showed this time, or a run was made, with its status
pub data Noted : Type 0 where
  Shown : ℕ → Noted
  Ran : Made → ℕ → Noted

-- a run is heard of, with its own status, if something of it is kept
abbrev pub noted_of : Made → List Noted
noted_of made = if is_kept made.end then Ran made (run_status made.end made.found) ∷ [] else []
