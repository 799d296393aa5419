-- What a crash may leave, and how a call changes that. A crash is a power cut, or the end of the
-- process at any moment.
use Rattle.std.specs.Prelude.{◌≡◌, ◌⊎◌, ℕ, ◌≤◌}
use Rattle.ocfl_accounts.specs.Kept.{Kept, Account, with_account}

-- a relation of what a crash may have left before a call and what it may leave in the call or after it
abbrev pub Step : Type 1
Step = Kept → Kept → Type 0

abbrev pub Same : Step
Same old new = new ≡ old

abbrev pub IsPut : Account → Step
IsPut a old new = new ≡ with_account a old

-- as before, or with the account
abbrev pub MayPut : Account → Step
MayPut a old new = (new ≡ old) ⊎ (new ≡ with_account a old)

abbrev pub Outcomes : Type 1
Outcomes = Kept → Type 0

abbrev pub After : Step → Outcomes → Outcomes
After step outcomes k = (d : Kept) × outcomes d × step d k

-- each new outcome is an old one after a step
abbrev pub Follows : Step → Outcomes → Outcomes → Type 0
Follows step old new = (k : Kept) → new k → After step old k

-- What a crash may leave after a call, or might have left in it, is what it might have left before,
-- or that after a step. What it might have left before stays so.
pub record Passes {F : Type 0} (may_leave : F → Outcomes) (moment : F → ℕ) (left_since : F → ℕ → Outcomes) (step : Step) (old new : F) : Type 0 where
  pub later : moment old ≤ moment new
  pub now : Follows step (may_leave old) (may_leave new)
  pub meanwhile : (t : ℕ) (k : Kept) → t ≤ moment old → left_since new t k → left_since old t k ⊎ After step (may_leave old) k
  pub keeps : (t : ℕ) (k : Kept) → t ≤ moment old → left_since old t k → left_since new t k
