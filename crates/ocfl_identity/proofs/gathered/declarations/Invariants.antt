use Rattle.std.proofs.Common.{◌≡◌, take}
use Rattle.ocfl_identity.specs.Identity.{declarations_among}
use Rattle.ocfl_identity.proofs.gathered.declarations.Given as goal

abbrev pub invariant-loop-entry : goal.invariant-loop-entry
invariant-loop-entry l = l.names.items ≡ declarations_among (take l.entry-index l.entries)
