-- The exit status of a night and of each of its runs, and what is kept of them.
use Rattle.std.specs.Prelude.{ℕ, ◌==◌, ◌||◌, Bool, true, false, not, nat_lt, max, length, Option, Some, None}
use Rattle.ocfl_status.specs.Status.{status_of as exit_status}
use Rattle.ocfl_terms.specs.Status.{found_status, halt_status}
use Rattle.ocfl_terms.specs.{declared.plan.Halt.{Halt}, declared.plan.NightEnd.{NightEnd}}
use Rattle.ocfl_terms.specs.declared.plan.Halt.TheVariants as halt
use Rattle.ocfl_terms.specs.declared.refusal.Refusal.{Refusal}
use Rattle.ocfl_terms.specs.declared.refusal.Refusal.TheVariants as refusal
use Rattle.ocfl_terms.specs.declared.made.SliceEnd.{SliceEnd}
use Rattle.ocfl_terms.specs.declared.made.SliceEnd.TheVariants as slice

abbrev pub has_stopped : SliceEnd → Bool
has_stopped (slice.Stopped fault) = true
has_stopped _ = false

-- a run that stopped lacks items
abbrev pub run_status : SliceEnd → Bool → ℕ
run_status how found = exit_status (has_stopped how) found

-- whether anything of a run is kept that ended so
abbrev pub is_kept : SliceEnd → Bool
is_kept slice.RootChanged = false
is_kept (slice.Unread place) = false
is_kept _ = true

-- whether a night lacks something: lines of the report were lost or are none, or a branch was left out
abbrev pub lacks : NightEnd → ℕ → Bool
lacks e broken = e.lost || nat_lt 0 broken || not (length e.left.items == 0)

-- the greatest of what its end, what it lacks and found, and what was said of closed cycles give
abbrev pub night_status : NightEnd → ℕ → ℕ → ℕ → ℕ
night_status e broken findings closings = max (max (halt_status e.end) (found_status (lacks e broken) findings)) closings

-- whether a folder that was refused is one of these nights: one of another root, part, audit or program
-- is left as it is
abbrev pub is_own : Refusal → Bool
is_own refusal.NoRoot = true
is_own refusal.OtherDeclaration = true
is_own (refusal.NamesGone gone before) = true
is_own (refusal.Older cycle) = true
is_own _ = false

-- whether a night that ended so is in the log of its folder
abbrev pub is_logged : Halt → Bool
is_logged (halt.Refused why) = is_own why
is_logged _ = true

-- the cycle whose report a night closed, 0 for none; none at all if it was refused
abbrev pub closed_by : Halt → Option ℕ
closed_by (halt.Refused why) = None
closed_by (halt.CycleEnded cycle) = Some cycle
closed_by _ = Some 0
