-- What the calls of the system answer that the clock of a night makes.
use Rattle.std.specs.Prelude.{ℕ, ◌-◌, ◌^◌, Bool, Option, unwrap_or}
use Rattle.ocfl_terms.specs.Clock.{Event, Asked, Read, Heard}
use Rattle.ocfl_terms.specs.declared.made.Made.{Made}

-- the seconds since the epoch, none where the clock cannot be read; whether the file is there that asks
-- a night to stop; and, between two calls, a run that was made
pub data Answer : Type 0 where
  Seconds : Option ℕ → Answer
  HasStop : Bool → Answer
  Ran : Made → Answer

-- what the night is told: a clock that cannot be read is past every end, and the night is asked to stop
-- while the file is there
abbrev pub event_of : Answer → Event
event_of (Seconds seconds) = Read (unwrap_or seconds (2 ^ 64 - 1))
event_of (HasStop there) = Asked there
event_of (Ran made) = Heard made
