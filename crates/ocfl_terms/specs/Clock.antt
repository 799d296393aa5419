-- What a clock was asked, what it answered, and what it heard.
use Rattle.std.specs.Prelude.{ℕ, Bool}
use Rattle.ocfl_terms.specs.declared.made.Made.{Made}

-- one thing that happened to a clock: it answered whether the night is asked to stop, or the time, or
-- it heard what a run made
pub data Event : Type 0 where
  Asked : Bool → Event
  Read : ℕ → Event
  Heard : Made → Event
