-- What a night may do, and what the last cycle cost.
use Rattle.std.specs.Prelude.{◌≡◌, ℕ, Bool, Option, Some, None, if◌then◌else◌, is_some}
use Rattle.ocfl_arguments.specs.declared.night.NightAsked.{NightAsked}
use Rattle.ocfl_kept.specs.declared.stand.Standing.{Standing}
use Rattle.ocfl_plan.specs.Plan.{plan_of}
use Rattle.ocfl_terms.specs.declared.plan.Plan.{Plan}
use Rattle.ocfl_given.specs.Given.{wait_after}

-- the plan of what is asked for, by where the nights stood. A night that waits, as the last cycle ended
-- so many days ago, is over when it begins; only one that is asked to can wait
pub record IsPlanOf (asked : NightAsked) (began : ℕ) (shown : Option ℕ) (stood : Standing) (plan : Plan) : Type 0 where
  pub ended : Option ℕ
  pub waits : Bool
  pub waits_after : waits ≡ is_some (wait_after asked.bounds.every stood ended began)
  pub is : plan ≡ plan_of asked began shown waits

-- known where the last cycle has ended: the night begins the next one
abbrev pub last_cost : Standing → Option ℕ
last_cost stood = if stood.has_ended then Some stood.spent else None
