-- Why a closing was not said.
use Rattle.std.specs.Prelude.{ℕ, ◌<◌, ◌≤◌, Result, Ok, Err}
use Rattle.ocfl_say.specs.Said.{Said, HasFailed}
use Rattle.ocfl_accounts.specs.declared.closings.ClosingStop.{ClosingStop}
use Rattle.ocfl_accounts.specs.declared.closings.ClosingStop.TheVariants.{Failed, Output, Memory}

-- Closings had failed so often before a call, and so often after it: that they failed is answered only
-- if they did, and that an output failed never. That memory was refused has no reason that could be
-- told.
abbrev pub IsCause : ℕ → ℕ → ClosingStop → Type 0
IsCause old new Failed = old < new
IsCause old new Output = ⊥
IsCause old new Memory = old ≤ new

-- a call fails for its reason; if it does not, they have not failed less often
abbrev pub HasCause : {T : Type 0} → ℕ → ℕ → Result T ClosingStop → Type 0
HasCause old new (Ok x) = old ≤ new
HasCause old new (Err why) = IsCause old new why

-- the same where an output is used too
abbrev pub IsReason : ℕ → ℕ → Said → Said → ClosingStop → Type 0
IsReason old new before after Failed = old < new
IsReason old new before after Output = (old ≤ new) × HasFailed before.failures after.failures
IsReason old new before after Memory = old ≤ new

abbrev pub HasReason : {T : Type 0} → ℕ → ℕ → Said → Said → Result T ClosingStop → Type 0
HasReason old new before after (Ok x) = old ≤ new
HasReason old new before after (Err why) = IsReason old new before after why
