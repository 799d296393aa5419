-- When the clock of a time zone comes to a time of day. Seconds are those since the Unix epoch, and
-- an offset is what `jiff` gives for the zone at an instant.
use Rattle.std.specs.Prelude.{◌≡◌, ◌⊎◌, ℕ, suc, ◌+◌, ◌-◌, ◌*◌, ◌<◌, ◌≤◌, ℤ, pos, negsuc, ◌*ℤ◌}
use Rattle.jiff.specs.Words.{offset_at}
use Rattle.jiff_tz.specs.declared.timezone.TimeZone.{TimeZone}

-- what a clock at an offset from UTC shows at a second, counted from two days before its own
-- 1970-01-01, 00:00: no offset reaches two days, so this is never negative
abbrev pub shifted : ℤ → ℕ → ℕ
shifted (pos offset) second = second + 172800 + offset
shifted (negsuc offset) second = second + 172800 - suc offset

-- what the clock of a zone shows at a second, counted so
unfoldable pub clock_at : TimeZone → ℕ → ℕ
clock_at zone second = shifted (offset_at zone (pos second *ℤ pos 1_000_000_000)) second

-- how many seconds of a day come before a time of day
abbrev pub second_of_day : ℕ → ℕ → ℕ
second_of_day hour minute = 3600 * hour + 60 * minute

-- between these two the clock comes to this time of a day: it shows it at the second one, or has
-- leapt over it since the first
abbrev pub Comes : ℕ → ℕ → ℕ → Type 0
Comes of_day before after = (day : ℕ) × (86400 * day + of_day ≤ after)
    × ((before < 86400 * day + of_day) ⊎ (86400 * day + of_day ≡ after))

-- the same within the second that ends at this one
abbrev pub ComesTo : TimeZone → ℕ → ℕ → Type 0
ComesTo zone of_day second = Comes of_day (clock_at zone second) (clock_at zone (second + 1))

-- the next time after now that the clock shows this time of day, or has just leapt over it; a day
-- from now if that is later
pub record IsNextTime (zone : TimeZone) (of_day now end : ℕ) : Type 0 where
  pub later : now < end
  pub soon : end ≤ now + 86400
  pub first : (s : ℕ) → now ≤ s → s + 1 < end → ComesTo zone of_day s → ⊥
  pub comes : end < now + 86400 → (s : ℕ) → s + 1 ≡ end → ComesTo zone of_day s
