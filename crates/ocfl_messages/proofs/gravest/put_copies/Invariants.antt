use Rattle.std.proofs.Common.{◌≡◌, ◌++◌, map, take}
use Rattle.ocfl_messages.specs.Finding.{finding_of}
use Rattle.ocfl_messages.proofs.gravest.put_copies.Given as goal

abbrev pub invariant-loop-finding : goal.invariant-loop-finding
invariant-loop-finding l = map finding_of l.all.items ≡ map finding_of l.fn.all.items ++ map finding_of (take l.finding-index l.kept)
