-- What is said of a night that waits with a new cycle. Times are in seconds since the Unix epoch.
use Rattle.std.specs.Prelude.{◌≡◌, ◌⊎◌, ◌++◌, ℕ, ◌+◌, ◌*◌, ◌-◌, ◌^◌, ◌<◌, ◌*ℤ◌, pos, min, codes}
use Rattle.std.specs.Fmt.{decimal}
use Rattle.jiff.specs.Words.{civil_nanos, iso_datetime_text}
use Rattle.jiff_core.specs.declared.civil.datetime.DateTime.{DateTime}
use Rattle.ocfl_tree.specs.Place.{Text}
use Rattle.ocfl_given.specs.declared.waiting.Wait.{Wait}

-- as RFC 3339 has a time in UTC
pub record IsDateText (seconds : ℕ) (text : Text) : Type 0 where
  pub time : DateTime
  pub is : civil_nanos time ≡ pos seconds *ℤ pos 1_000_000_000
  pub text_is : text ≡ iso_datetime_text time ++ codes "Z"

-- a time that the calendar has so, and another one as its seconds
abbrev pub IsTimeText : ℕ → Text → Type 0
IsTimeText seconds text = IsDateText seconds text ⊎ ((253402207200 < seconds) × (text ≡ decimal seconds))

-- when the next cycle may begin
abbrev pub next_after : Wait → ℕ
next_after w = min (w.ended + 86400 * w.days) (2 ^ 64 - 1)

-- it is said until when no cycle is begun, and after which one
pub record IsWaitText (w : Wait) (text : Text) : Type 0 where
  pub next : Text
  pub next_is : IsTimeText (next_after w) next
  pub ended : Text
  pub ended_is : IsTimeText w.ended ended
  pub text_is : text ≡ codes "No new cycle is begun before " ++ next ++ codes ": cycle " ++ decimal w.cycle ++ codes " ended at " ++ ended ++ codes ", and --every is " ++ decimal w.days ++ codes ".\n"
