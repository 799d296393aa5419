-- The plan of a night by whether it waits.
use Rattle.std.proofs.Common.{◌≡◌, ◌∙◌, ap, sym, refl, ℕ, Bool, Option, None, Some, IfSome, is_some}
use Rattle.ocfl_arguments.specs.declared.night.NightAsked.{NightAsked}
use Rattle.ocfl_kept.specs.declared.stand.Standing.{Standing}
use Rattle.ocfl_plan.specs.Plan.{plan_of}
use Rattle.ocfl_terms.specs.declared.plan.Plan.{Plan}
use Rattle.ocfl_given.specs.{Given.{wait_after}, Planning.{IsPlanOf}}
use Rattle.ocfl_given.specs.declared.waiting.Wait.{Wait}

-- a night does not wait for a cycle whose end is not known
unended : (every : Option ℕ) (stood : Standing) (now : ℕ) → wait_after every stood None now ≡ None
unended None stood now = refl
unended (Some days) stood now = refl

pub plan_after : (asked : NightAsked) (began : ℕ) (shown : Option ℕ) (stood : Standing) (wait : Option Wait) (waits : Bool) (plan : Plan)
    → IfSome wait (λ w. wait_after asked.bounds.every stood (Some w.ended) began ≡ Some w)
    → waits ≡ is_some wait → plan ≡ plan_of asked began shown waits → IsPlanOf asked began shown stood plan
plan_after asked began shown stood (Some w) waits plan h is p = record { ended = Some w.ended; waits = waits; waits_after = is ∙ sym (ap is_some h); is = p }
plan_after asked began shown stood None waits plan h is p = record { ended = None; waits = waits; waits_after = is ∙ sym (ap is_some (unended asked.bounds.every stood began)); is = p }
