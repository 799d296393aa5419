use Rattle.std.proofs.Common.{◌≡◌, map, take}
use Rattle.ocfl_messages.specs.{Finding.{finding_of}, Grouped.{without_beside}}
use Rattle.ocfl_messages.proofs.respelt.find_kept.Given as goal

abbrev pub invariant-loop-finding : goal.invariant-loop-finding
invariant-loop-finding l = map finding_of l.kept.items ≡ without_beside (map finding_of l.respelt) (map finding_of (take l.finding-index l.all))
