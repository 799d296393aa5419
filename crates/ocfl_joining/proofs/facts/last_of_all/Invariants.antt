use Rattle.std.proofs.Common.{◌≡◌, take}
use Rattle.ocfl_joining.specs.Facts.{last_of_all}
use Rattle.ocfl_joining.proofs.facts.last_of_all.Given as goal

abbrev pub invariant-loop-facts : goal.invariant-loop-facts
invariant-loop-facts l = l.last ≡ last_of_all (take l.facts-index l.all)
