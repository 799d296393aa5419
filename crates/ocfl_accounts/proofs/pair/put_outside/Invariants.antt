use Rattle.std.proofs.Common.{◌≡◌, ◌++◌, take}
use Rattle.ocfl_accounts.specs.Pairs.{outside}
use Rattle.ocfl_accounts.proofs.pair.put_outside.Given as goal

abbrev pub invariant-loop-place : goal.invariant-loop-place
invariant-loop-place l = l.rest.items ≡ l.fn.rest.items ++ outside (take l.place-index l.places) l.others
