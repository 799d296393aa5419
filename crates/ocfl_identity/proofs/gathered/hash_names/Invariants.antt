use Rattle.std.proofs.Common.{take}
use Rattle.sha2.specs.Hashers.{Holds256}
use Rattle.ocfl_identity.specs.Identity.{ended_names, names_of}
use Rattle.ocfl_identity.proofs.gathered.hash_names.Given as goal

abbrev pub invariant-loop-entry : goal.invariant-loop-entry
invariant-loop-entry l = Holds256 l.hasher (ended_names (names_of (take l.entry-index l.entries)))
