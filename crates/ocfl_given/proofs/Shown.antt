-- When a clock shows a time of day, it does so within a day.
use Rattle.std.proofs.Common.{ℕ, Option, None, Some, Result, Ok, Err, IfSome}
use Rattle.jiff.specs.declared.tz.db.TimeZoneDatabase.{TimeZoneDatabase}
use Rattle.jiff_core.specs.declared.error.Error.{Error}
use Rattle.jiff_tz.specs.declared.{system.SystemTimeZone.{SystemTimeZone}, timezone.TimeZone.{TimeZone}}
use Rattle.ocfl_given.specs.Ends.{IsInZone, IsShownIn, IsWithinDay}

pub within : (zone : TimeZone) (hour minute now : ℕ) (shown : Option ℕ) → IsShownIn zone hour minute now shown → IfSome shown (IsWithinDay now)
within zone hour minute now None h = tt
within zone hour minute now (Some end) h = record { later = h.later; soon = h.soon }

-- of the zone that the system names too
pub within_zone : (system : SystemTimeZone) (zones : Result TimeZoneDatabase Error) (hour minute now : ℕ) (shown : Option ℕ) → IsInZone system zones hour minute now shown → IfSome shown (IsWithinDay now)
within_zone system (Ok zones) hour minute now shown (zone, is, h) = within zone hour minute now shown h
within_zone system (Err why) hour minute now shown h = absurd h
