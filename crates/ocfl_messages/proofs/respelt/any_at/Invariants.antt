use Rattle.std.proofs.Common.{◌≡◌, drop}
use Rattle.std.specs.List.{list_any}
use Rattle.ocfl_messages.specs.{Finding.{finding_of}, Grouped.{is_at}}
use Rattle.ocfl_messages.proofs.respelt.any_at.Given as goal

-- those so far are of other groups or places
abbrev pub invariant-loop-finding : goal.invariant-loop-finding
invariant-loop-finding l =
    list_any (λ g. is_at (finding_of l.one) (finding_of g)) l.findings
    ≡ list_any (λ g. is_at (finding_of l.one) (finding_of g)) (drop l.finding-index l.findings)
