-- What a crash may leave of a state folder, and how a call changes that. A crash is a power cut, or
-- the end of the process at any moment.
use Rattle.std.specs.Prelude.{◌≡◌, ◌⊎◌, ℕ, ◌≤◌, ◌++◌, Bool, length, max}
use Rattle.ocfl_state.specs.Content.{Bytes, Content, with_checkpoint, moved}

-- a text begins with another one
abbrev pub Begins : Bytes → Bytes → Type 0
Begins front text = (rest : Bytes) × (text ≡ front ++ rest)

-- A relation of what a crash may have left before a call and what it may leave in the call or after
-- it.
abbrev pub Step : Type 1
Step = Content → Content → Type 0

abbrev pub Same : Step
Same old new = new ≡ old

abbrev pub IsPut : Bytes → Step
IsPut bytes old new = new ≡ with_checkpoint bytes old

-- the old checkpoint or the new one, each whole
abbrev pub MayPut : Bytes → Step
MayPut bytes old new = (new ≡ old) ⊎ (new ≡ with_checkpoint bytes old)

abbrev pub IsMoved : ℕ → Bool → Step
IsMoved cycle whole old new = new ≡ moved cycle whole old

-- as before, or moved
abbrev pub MayMove : ℕ → Bool → Step
MayMove cycle whole old new = (new ≡ old) ⊎ (new ≡ moved cycle whole old)

-- The report alone may differ: of its first n bytes those that were there stay, and it is no longer
-- than it was, or than `most` bytes.
pub record MayTear (n most : ℕ) (old new : Content) : Type 0 where
  pub checkpoint : new.checkpoint ≡ old.checkpoint
  pub closed : new.closed ≡ old.closed
  pub front : (text : Bytes) → length text ≤ n → Begins text old.report → Begins text new.report
  pub no_longer : length new.report ≤ max (length old.report) most

-- the contents that a crash may leave
abbrev pub Outcomes : Type 1
Outcomes = Content → Type 0

-- a crash leaves this content and no other
abbrev pub Only : Content → Outcomes → Type 0
Only content outcomes = (c : Content) → outcomes c → c ≡ content

-- one of these after a step
abbrev pub After : Step → Outcomes → Outcomes
After step outcomes c = (d : Content) × outcomes d × step d c

-- each new outcome is an old one after a step
abbrev pub Follows : Step → Outcomes → Outcomes → Type 0
Follows step old new = (c : Content) → new c → After step old c

-- One call passes: what a crash may leave after it, or might have left in it, is what it might have
-- left before, or that after a step. What it might have left before stays so.
pub record Passes {F : Type 0} (may_leave : F → Outcomes) (moment : F → ℕ) (left_since : F → ℕ → Outcomes) (step : Step) (old new : F) : Type 0 where
  pub later : moment old ≤ moment new
  pub now : Follows step (may_leave old) (may_leave new)
  pub meanwhile : (t : ℕ) (c : Content) → t ≤ moment old → left_since new t c → left_since old t c ⊎ After step (may_leave old) c
  pub keeps : (t : ℕ) (c : Content) → t ≤ moment old → left_since old t c → left_since new t c

-- a crash at any moment since the first leaves a content that has this property
pub record LeavesOnly {F : Type 0} (moment : F → ℕ) (left_since : F → ℕ → Outcomes) (old new : F) (Holds : Outcomes) : Type 0 where
  pub later : moment old ≤ moment new
  pub each : (c : Content) → left_since new (moment old) c → Holds c
  -- seen from an earlier moment
  pub before : (t : ℕ) (c : Content) → t ≤ moment old → left_since new t c → left_since old t c ⊎ Holds c
