-- When a new cycle may begin. Times are in seconds since the Unix epoch.
use Rattle.std.specs.Prelude.{ℕ, ◌+◌, ◌*◌, ◌||◌, Bool, true, false, not, if◌then◌else◌, Option, Some, None, nat_lt}

-- a new cycle may begin once so many days have passed since the last one ended, if one has. An end
-- that is still to come says nothing, since a clock was wrong then
abbrev pub may_begin : Option ℕ → ℕ → ℕ → Bool
may_begin None now days = true
may_begin (Some ended) now days = nat_lt now ended || not (nat_lt now (ended + 86400 * days))

-- a night has to wait with a new cycle; where a cycle is open, it goes on with that one
abbrev pub must_wait : Option ℕ → Bool → Option ℕ → ℕ → Bool
must_wait None is_open ended now = false
must_wait (Some days) is_open ended now = if is_open then false else not (may_begin ended now days)
