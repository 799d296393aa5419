-- Closed reports that are as they were closed.
use Rattle.std.specs.Prelude.{◌≡◌, ℕ, ◌==◌, Bool, true, false, Option, Some, None, ⊤}
use Rattle.ocfl_tree.specs.Place.{Text}
use Rattle.ocfl_state.specs.Checkpoint.{Checkpoint}
use Rattle.ocfl_accounts.specs.{Cycle.{Cycle}, declared.pair.Pair.{Pair}}
use Rattle.ocfl_closed.specs.Files.{Files, bytes_by, is_as_closed}

-- By what was kept of its closing, and the checkpoint that this is. A report with which nothing was
-- kept counts so; one with which something was kept that is no checkpoint any more does not.
abbrev pub is_unchanged_by : Option Text → Option Checkpoint → Text → Bool
is_unchanged_by None found report = true
is_unchanged_by (Some kept) None report = false
is_unchanged_by (Some kept) (Some c) report = is_as_closed c report

-- the report of a cycle is as it was closed
abbrev pub is_unchanged : Files → ℕ → Bool
is_unchanged f cycle = is_unchanged_by (f.kept cycle) (f.checkpoint cycle) (bytes_by (f.whole cycle) (f.incomplete cycle))

abbrev pub is_number : Option Cycle → ℕ → Bool
is_number None cycle = false
is_number (Some c) cycle = c.cycle == cycle

-- the report before of a pair is that of a cycle
abbrev pub is_before : Pair → ℕ → Bool
is_before pair cycle = is_number pair.before cycle

-- the report of a cycle before is as it was closed, and so is that of a pair, if it is its report before
abbrev pub IsUnchangedSince : Files → Pair → ℕ → Type 0
IsUnchangedSince f pair before = (is_unchanged f before ≡ true) × (is_before pair before ≡ true → is_unchanged f pair.closed.cycle ≡ true)

abbrev pub IsSinceUnchanged : Files → Pair → Option Cycle → Type 0
IsSinceUnchanged f pair None = ⊤
IsSinceUnchanged f pair (Some b) = (is_unchanged f b.cycle ≡ true) × (is_unchanged f pair.closed.cycle ≡ true)

abbrev pub IsBeforeUnchanged : Files → Pair → Type 0
IsBeforeUnchanged f pair = IsSinceUnchanged f pair pair.before

abbrev pub IsWholeUnchanged : Files → Option Cycle → Type 0
IsWholeUnchanged f None = ⊤
IsWholeUnchanged f (Some w) = is_unchanged f w.cycle ≡ true

abbrev pub AreAllUnchanged : Files → Pair → Type 0
AreAllUnchanged f pair = IsBeforeUnchanged f pair × IsWholeUnchanged f pair.whole

-- the reports that are compared; of a cycle whose report lost lines there are none
abbrev pub AreUnchanged : Files → Pair → Type 0
AreUnchanged f pair = pair.closed.lost ≡ false → AreAllUnchanged f pair
