-- What it is to say the closings of a state folder.
use Rattle.std.specs.Prelude.{ℕ, ◌≤◌, ◌+◌, ◌-◌, ◌^◌, max, min}
use Rattle.ocfl_say.specs.Said.{Said}
use Rattle.ocfl_accounts.specs.{Rounds.{MayAccounts}, Telling.{AreSaid, stand_of}, Unsaid.{NoneUnsaid, oldest}}
use Rattle.ocfl_closed.specs.{Cut.{ClosedState, Passes}, Files.{kept_of}, Words.{Means, said_by}}

-- the number after the last cycle: the one that was closed last before the night, or the one that the
-- night closed
abbrev pub end_of : ℕ → ℕ → ℕ
end_of before closed = min (max before closed + 1) (2 ^ 64 - 1)

-- From some cycle on, before which none is unsaid of the last 1,000, all cycles were said or left alone
-- in order, with this status. Each text is made with these means, and by the checkpoints that were kept.
-- At each moment a crash leaves the accounts of some of those that were said.
pub record HasSaid (m : Means) (before closed : ℕ) (old new : ClosedState) (said then : Said) (status : ℕ) : Type 0 where
  pub first : ℕ
  pub none : NoneUnsaid (kept_of old.files) (oldest before) first
  pub within : first ≤ before
  pub faults : ℕ
  pub faults_then : ℕ
  pub are : AreSaid (stand_of (kept_of old.files) faults said) (max first 1) (end_of before closed) (said_by m old.files.checkpoint) (stand_of (kept_of new.files) faults_then then) status
  pub crash : Passes (MayAccounts (kept_of old.files) (said_by m old.files.checkpoint) (max first 1) (end_of before closed) said then) old new
