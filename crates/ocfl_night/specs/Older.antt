-- When a checkpoint is older than the reports beside it.
use Rattle.std.specs.Prelude.{◌≡◌, ◌≢◌, ◌⊎◌, ℕ, ◌+◌, ◌<◌, ◌≤◌, ◌^◌, [], IsTrue, Option, Some, None}
use Rattle.ocfl_scrub.specs.Running.{begun}
use Rattle.ocfl_state.specs.{Checkpoint.{Checkpoint}, Content.{Content, is_closed}}
use Rattle.ocfl_state.specs.declared.checkpoint_parts.Phase.TheVariants.{Closing}
use Rattle.ocfl_night.specs.Sound.{IsAt}

-- a number of 64 bits, or that it has more
abbrev pub IsNumber : Option ℕ → ℕ → Type 0
IsNumber None n = 2 ^ 64 ≤ n
IsNumber (Some m) n = m ≡ n

-- the cycle that a checkpoint says is open, or comes after one that has ended
abbrev pub open_cycle : Checkpoint → ℕ
open_cycle k = (begun k.cursor).cycle

-- that cycle or the one after it: a checkpoint says that no report of these is closed
abbrev pub IsToCome : Checkpoint → ℕ → Type 0
IsToCome k cycle = (cycle ≡ open_cycle k) ⊎ (cycle ≡ open_cycle k + 1)

-- the cycle is the one whose report is to be closed: it is closed, and there is another one besides
pub record IsBesides (k : Checkpoint) (c : Content) (cycle : ℕ) : Type 0 where
  pub phase : k.phase ≡ Closing
  pub is : cycle ≡ k.cursor.cycle
  pub closed : IsTrue (is_closed c.closed cycle)
  pub another : c.report ≢ []

-- the closed report of a cycle shows that a checkpoint is not the newest one
abbrev pub IsOlder : Checkpoint → Content → ℕ → Type 0
IsOlder k c cycle = (IsToCome k cycle × IsTrue (is_closed c.closed cycle)) ⊎ IsBesides k c cycle

-- if the checkpoint of a folder with this content is older than its reports
abbrev pub IfOlder : Content → Type 0 → Type 0
IfOlder c Holds = (k : Checkpoint) → IsAt k c → (cycle : ℕ) → cycle < 2 ^ 64 → IsOlder k c cycle → Holds
