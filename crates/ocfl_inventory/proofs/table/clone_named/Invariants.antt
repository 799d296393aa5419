use Rattle.std.proofs.Common.{◌≡◌, map, take}
use Rattle.ocfl_inventory.specs.TripleView.{named_view}
use Rattle.ocfl_inventory.proofs.table.clone_named.Given as goal

abbrev pub invariant-loop-triple : goal.invariant-loop-triple
invariant-loop-triple l = map named_view l.found.items ≡ map (λ t. t.named) (take l.triple-index l.triples)
