-- The exit status of a program after a night.
use Rattle.std.specs.Prelude.{ℕ, ◌==◌, Bool, not}
use Rattle.ocfl_status.specs.Status.{status_of as exit_status}
use Rattle.ocfl_terms.specs.{declared.plan.Halt.{Halt}, declared.refusal.Refusal.{Refusal}}
use Rattle.ocfl_terms.specs.declared.plan.Halt.TheVariants as halt
use Rattle.ocfl_terms.specs.declared.refusal.Refusal.TheVariants as refusal

-- 4 if the checkpoint cannot be read
abbrev pub refusal_status : Refusal → ℕ
refusal_status (refusal.Unread why) = 4
refusal_status _ = 3

-- 0 if a night ended as it may
abbrev pub halt_status : Halt → ℕ
halt_status (halt.CycleEnded cycle) = 0
halt_status halt.TimeUp = 0
halt_status halt.Spent = 0
halt_status halt.Asked = 0
halt_status (halt.Refused why) = refusal_status why
halt_status _ = 3

-- what was lost is graver than what was found
abbrev pub found_status : Bool → ℕ → ℕ
found_status lost findings = exit_status lost (not (findings == 0))
