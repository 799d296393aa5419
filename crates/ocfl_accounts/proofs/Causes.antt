-- Why a closing was not said, over several calls.
use Rattle.std.proofs.Common.{ℕ, ◌≤◌, arith}
use Rattle.ocfl_say.specs.Said.{Said}
use Rattle.ocfl_accounts.specs.Causes.{IsCause, IsReason}
use Rattle.ocfl_accounts.specs.declared.closings.ClosingStop.{ClosingStop}
use Rattle.ocfl_accounts.specs.declared.closings.ClosingStop.TheVariants.{Failed, Output, Memory}

-- a call before it that did not fail
pub cause_on : (why : ClosingStop) (a b c : ℕ) → a ≤ b → IsCause b c why → IsCause a c why
cause_on Failed a b c le is = omega (arith, le, is)
cause_on Output a b c le is = is
cause_on Memory a b c le is = omega (arith, le, is)

-- closings failed, and the output was not used yet
pub cause_is_reason : (why : ClosingStop) (a b : ℕ) (s t : Said) → IsCause a b why → IsReason a b s t why
cause_is_reason Failed a b s t is = is
cause_is_reason Output a b s t is = absurd is
cause_is_reason Memory a b s t is = is

pub reason_on : (why : ClosingStop) (a b c : ℕ) (s t : Said) → a ≤ b → IsReason b c s t why → IsReason a c s t why
reason_on Failed a b c s t le is = omega (arith, le, is)
reason_on Output a b c s t le is = (omega (arith, le, is.0), is.1)
reason_on Memory a b c s t le is = omega (arith, le, is)
