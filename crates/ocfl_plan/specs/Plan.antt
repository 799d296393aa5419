-- What a night may do, by what is asked for. Times are in seconds since the Unix epoch.
use Rattle.std.specs.Prelude.{ℕ, ◌+◌, ◌*◌, ◌-◌, ◌^◌, Bool, Option, Some, None, if◌then◌else◌, min, unwrap_or}
use Rattle.ocfl_arguments.specs.declared.night.{NightAsked.{NightAsked}, Until.{Until}}
use Rattle.ocfl_arguments.specs.declared.night.Until.TheVariants.{Never, Hours, TimeOfDay, At}
use Rattle.ocfl_terms.specs.declared.plan.Plan.{Plan}

-- a run spends as much as `--slice` says; without it 1 GiB, and no more than the budget of the night
abbrev pub slice_of : Option ℕ → Option ℕ → ℕ
slice_of (Some slice) budget = slice
slice_of None None = 2 ^ 30
slice_of None (Some budget) = min budget (2 ^ 30)

-- the end of a night that began then, and for which the clock next shows the time of day that is asked
-- for at `shown`; without that time it is over when it begins
abbrev pub end_of : Until → ℕ → Option ℕ → Option ℕ
end_of Never began shown = None
end_of (Hours hours) began shown = Some (min (began + 3600 * hours) (2 ^ 64 - 1))
end_of (TimeOfDay hour minute) began shown = Some (unwrap_or shown 0)
end_of (At second) began shown = Some second

-- what the night may do; one that waits is over when it begins
abbrev pub plan_of : NightAsked → ℕ → Option ℕ → Bool → Plan
plan_of asked began shown waits = record {
  slice_budget = slice_of asked.bounds.slice asked.bounds.budget;
  slice_files = 20000;
  end = if waits then Some 0 else end_of asked.bounds.until began shown;
  files = asked.bounds.files;
  create = asked.create;
  force_root = asked.force_root;
  stop_at_faults = asked.stop_at_faults;
}
