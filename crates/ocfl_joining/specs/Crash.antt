-- What a crash may leave of the joined reports of a cycle, and how a call changes that. A crash is a
-- power cut, or the end of the process at any moment.
use Rattle.std.specs.Prelude.{◌≡◌, ◌⊎◌, ℕ, ◌≤◌, List, [], ◌∷◌, ◌++◌}
use Rattle.ocfl_joining.specs.Reports.{Put}

abbrev pub Outcomes : Type 1
Outcomes = List Put → Type 0

-- a relation of what a crash may have left before a call and what it may leave in the call or after it
abbrev pub Step : Type 1
Step = List Put → List Put → Type 0

abbrev pub Same : Step
Same old new = new ≡ old

-- as before, or with the joined report, all of it
abbrev pub MayPut : Put → Step
MayPut joined old new = (new ≡ old) ⊎ (new ≡ old ++ joined ∷ [])

abbrev pub After : Step → Outcomes → Outcomes
After step outcomes puts = (d : List Put) × outcomes d × step d puts

-- What a crash may leave after a call, or might have left in it, is what it might have left before,
-- or that after a step. What it might have left before stays so.
pub record Passes {F : Type 0} (may_leave : F → Outcomes) (moment : F → ℕ) (left_since : F → ℕ → Outcomes) (step : Step) (old new : F) : Type 0 where
  pub later : moment old ≤ moment new
  pub now : (puts : List Put) → may_leave new puts → After step (may_leave old) puts
  pub meanwhile : (t : ℕ) (puts : List Put) → t ≤ moment old → left_since new t puts → left_since old t puts ⊎ After step (may_leave old) puts
  pub keeps : (t : ℕ) (puts : List Put) → t ≤ moment old → left_since old t puts → left_since new t puts
