-- One look of a search for an earlier cycle.
use Rattle.std.specs.Prelude.{ℕ, Bool, if◌then◌else◌, Option, Some, None}
use Rattle.ocfl_accounts.specs.Cycle.{Cycle, Sight, there, away, is_fit_cycle, is_missing}

abbrev pub fit_of : Bool → Sight → Option Cycle
fit_of only_whole (there c) = if is_fit_cycle only_whole c then Some c else None
fit_of only_whole (away whole lost) = None

abbrev pub missing_with : Bool → Option ℕ → ℕ → Sight → Option ℕ
missing_with only_whole (Some c) cycle sight = Some c
missing_with only_whole None cycle sight = if is_missing only_whole sight then Some cycle else None
