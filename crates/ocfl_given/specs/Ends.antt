-- When the clock shows the time of day at which a night ends. Times are in seconds since the Unix epoch.
use Rattle.std.specs.Prelude.{◌≡◌, ℕ, ◌+◌, ◌<◌, ◌≤◌, Option, Some, None, Result, Ok, Err, codes}
use Rattle.jiff.specs.ZoneView.{plain_database}
use Rattle.jiff.specs.declared.tz.db.TimeZoneDatabase.{TimeZoneDatabase}
use Rattle.jiff_core.specs.declared.error.Error.{Error}
use Rattle.jiff_core.specs.declared.error.Error.TheVariants as error
use Rattle.jiff_tz.specs.System.{IsSystemZone}
use Rattle.jiff_tz.specs.declared.{system.SystemTimeZone.{SystemTimeZone}, timezone.TimeZone.{TimeZone}}
use Rattle.ocfl_clock.specs.Clock.{IsNextTime, second_of_day}
use Rattle.ocfl_files.specs.declared.failing.Failure.{Failure}
use Rattle.ocfl_given.specs.Refusing.{IsUsage, Refuses, out_of_memory}

-- after now, and no more than a day after it
pub record IsWithinDay (now end : ℕ) : Type 0 where
  pub later : now < end
  pub soon : end ≤ now + 86400

-- the clock of a zone next shows the time of day then; after the year 9999 no clock does
abbrev pub IsShownIn : TimeZone → ℕ → ℕ → ℕ → Option ℕ → Type 0
IsShownIn zone hour minute now (Some end) = IsNextTime zone (second_of_day hour minute) now end
IsShownIn zone hour minute now None = 253402207200 < now + 86400

-- the clock of the zone that the system names, by these zones, does so
abbrev pub IsInZone : SystemTimeZone → Result TimeZoneDatabase Error → ℕ → ℕ → ℕ → Option ℕ → Type 0
IsInZone system (Ok zones) hour minute now shown = (zone : TimeZone) × IsSystemZone system (plain_database zones) (Ok zone) × IsShownIn zone hour minute now shown
IsInZone system (Err why) hour minute now shown = ⊥

-- a night ends when the clock shows its time; it is not made where that is not known
abbrev pub IsEndOf : Result (Option ℕ) Error → Result ℕ Failure → Type 0
IsEndOf (Ok (Some end)) answer = answer ≡ Ok end
IsEndOf (Ok None) (Err f) = Refuses (codes "the clock is not set: no end of the night can be found\n") f
IsEndOf (Err error.OutOfMemory) (Err f) = f ≡ out_of_memory
IsEndOf (Err why) (Err f) = IsUsage f
IsEndOf shown (Ok end) = ⊥
