-- The times that a clock answered, and how many runs of a night began before an end.
use Rattle.std.specs.Prelude.{⊤, ℕ, ◌≡◌, ◌+◌, ◌≤◌, List, [], ◌∷◌, ◌++◌, Option, Some, None, nat_lt, if◌then◌else◌}
use Rattle.ocfl_terms.specs.Clock.{Event, Asked, Read, Heard}

-- the times that it answered
abbrev pub times : List Event → List ℕ
times [] = []
times (Asked stops ∷ events) = times events
times (Read now ∷ events) = now ∷ times events
times (Heard made ∷ events) = times events

-- how many of some times are before an end
abbrev pub times_before : ℕ → List ℕ → ℕ
times_before end [] = 0
times_before end (t ∷ times) = (if nat_lt t end then 1 else 0) + times_before end times

-- no more runs than the clock answered that the end had not come; any number where there is no end
abbrev pub MayBegin : Option ℕ → List ℕ → ℕ → Type 0
MayBegin None times runs = ⊤
MayBegin (Some end) times runs = runs ≤ times_before end times

-- so many runs, by what the clock answered meanwhile
pub record BeginsInTime (end : Option ℕ) (old new : List Event) (runs : ℕ) : Type 0 where
  pub events : List Event
  pub are : new ≡ old ++ events
  pub few : MayBegin end (times events) runs
