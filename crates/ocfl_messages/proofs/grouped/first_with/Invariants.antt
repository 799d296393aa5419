use Rattle.std.proofs.Common.{◌≡◌, drop, map}
use Rattle.ocfl_messages.specs.{Finding.{finding_of}, Grouped.{first_with}}
use Rattle.ocfl_messages.proofs.grouped.first_with.Given as goal

-- that of the rest is that of all
abbrev pub invariant-loop-finding : goal.invariant-loop-finding
invariant-loop-finding l = first_with (finding_of l.one) (drop l.finding-index (map finding_of l.findings)) ≡ first_with (finding_of l.one) (map finding_of l.findings)
