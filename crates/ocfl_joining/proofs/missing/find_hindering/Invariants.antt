use Rattle.std.proofs.Common.{◌≡◌, take, filter}
use Rattle.ocfl_joining.specs.Missing.{hinders}
use Rattle.ocfl_joining.proofs.missing.find_hindering.Given as goal

abbrev pub invariant-loop-one : goal.invariant-loop-one
invariant-loop-one l = l.found.items ≡ filter (λ m. hinders m.fault) (take l.one-index l.missing)
