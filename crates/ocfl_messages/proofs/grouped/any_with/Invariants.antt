use Rattle.std.proofs.Common.{◌≡◌, drop}
use Rattle.std.specs.List.{list_any}
use Rattle.ocfl_messages.specs.{Finding.{finding_of}, Grouped.{is_with}}
use Rattle.ocfl_messages.proofs.grouped.any_with.Given as goal

-- those so far are of other groups
abbrev pub invariant-loop-lead : goal.invariant-loop-lead
invariant-loop-lead l =
    list_any (λ g. is_with (finding_of l.one) (finding_of g)) l.leads
    ≡ list_any (λ g. is_with (finding_of l.one) (finding_of g)) (drop l.lead-index l.leads)
