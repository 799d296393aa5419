use Rattle.std.proofs.Common.{◌≡◌, map, take}
use Rattle.ocfl_messages.specs.{Finding.{finding_of}, Grouped.{leads_of}}
use Rattle.ocfl_messages.proofs.grouped.leads_of.Given as goal

abbrev pub invariant-loop-finding : goal.invariant-loop-finding
invariant-loop-finding l = map finding_of l.leads.items ≡ leads_of (map finding_of (take l.finding-index l.all))
