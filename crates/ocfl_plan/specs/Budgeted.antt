-- What a clock answers that also asks a night to stop once its budget is spent.
use Rattle.std.specs.Prelude.{ℕ, ◌||◌, List, [], ◌∷◌, Bool, false, not, nat_lt, Option, Some, None}
use Rattle.ocfl_terms.specs.Clock.{Event, Asked, Read, Heard}
use Rattle.ocfl_terms.specs.Counting.{counted}

-- whether this much spends a budget
abbrev pub is_spent : Option ℕ → ℕ → Bool
is_spent None spent = false
is_spent (Some budget) spent = not (nat_lt spent budget)

-- what was spent once this has happened
abbrev pub spent_after : ℕ → Event → ℕ
spent_after spent (Asked stops) = spent
spent_after spent (Read now) = spent
spent_after spent (Heard made) = counted spent made.spent

-- what was spent once all of these have happened
abbrev pub spent_in : ℕ → List Event → ℕ
spent_in spent [] = spent
spent_in spent (e ∷ events) = spent_in (spent_after spent e) events

-- it also asks the night to stop if the budget is spent
abbrev pub with_budget : Option ℕ → ℕ → Event → Event
with_budget budget spent (Asked stops) = Asked (stops || is_spent budget spent)
with_budget budget spent (Read now) = Read now
with_budget budget spent (Heard made) = Heard made

-- what happened to it, where this happened to the clock that it is made of
abbrev pub budgeted : Option ℕ → ℕ → List Event → List Event
budgeted budget spent [] = []
budgeted budget spent (e ∷ events) = with_budget budget spent e ∷ budgeted budget (spent_after spent e) events
