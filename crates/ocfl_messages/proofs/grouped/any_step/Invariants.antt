use Rattle.std.proofs.Common.{◌≡◌, drop, map}
use Rattle.std.specs.List.{list_any}
use Rattle.ocfl_messages.specs.{Finding.{finding_of}, Grouped.{says_step}}
use Rattle.ocfl_messages.proofs.grouped.any_step.Given as goal

-- the groups so far have not said it
abbrev pub invariant-loop-lead : goal.invariant-loop-lead
invariant-loop-lead l =
    list_any (λ g. says_step (map finding_of l.alone) (finding_of l.one) (finding_of g)) l.before
    ≡ list_any (λ g. says_step (map finding_of l.alone) (finding_of l.one) (finding_of g)) (drop l.lead-index l.before)
