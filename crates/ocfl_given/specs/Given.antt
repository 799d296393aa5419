-- What a night is made with, and when it has to wait with a new cycle. Times are in seconds since the
-- Unix epoch.
use Rattle.std.specs.Prelude.{◌≡◌, ℕ, Bool, true, false, not, Option, Some, None, if◌then◌else◌, is_some, IfSome}
use Rattle.ocfl_arguments.specs.declared.night.{NightAsked.{NightAsked}, Until.{Until}}
use Rattle.ocfl_arguments.specs.declared.night.Until.TheVariants as until
use Rattle.ocfl_clock.specs.Every.{must_wait}
use Rattle.ocfl_kept.specs.declared.stand.Standing.{Standing}
use Rattle.ocfl_terminal.specs.Chosen.{AreEndsOf}
use Rattle.ocfl_given.specs.Ends.{IsWithinDay}
use Rattle.ocfl_given.specs.declared.{given.Found.{Found}, waiting.Wait.{Wait}}

-- after the cycle where the nights stand, if it is closed, and ended so many days ago that it must wait
abbrev pub wait_after : Option ℕ → Standing → Option ℕ → ℕ → Option Wait
wait_after (Some days) began (Some ended) now = if must_wait (Some days) (not began.is_closed) (Some ended) now
    then Some (record { cycle = began.cycle; ended = ended; days = days }) else None
wait_after _ began _ now = None

abbrev pub is_time_of_day : Until → Bool
is_time_of_day (until.TimeOfDay hour minute) = true
is_time_of_day _ = false

-- the night that is asked for, of the part that is chosen, which ends by the clock only if it is to
pub record IsMadeWith (asked : NightAsked) (began : ℕ) (found : Found) : Type 0 where
  pub asked_for : found.given.asked.now ≡ asked
  pub since : found.given.began ≡ began
  pub part : AreEndsOf asked.chosen found.ends
  pub shown : is_some found.given.shown ≡ is_time_of_day asked.bounds.until
  pub soon : IfSome found.given.shown (IsWithinDay began)
