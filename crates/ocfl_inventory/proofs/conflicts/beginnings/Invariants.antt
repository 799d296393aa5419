use Rattle.std.proofs.Common.{◌≡◌, ◌++◌, ◌-◌, map, drop}
use Rattle.ocfl_tree.specs.Place.{begins}
use Rattle.ocfl_inventory.specs.Internal.Beside.{hits}
use Rattle.ocfl_inventory.proofs.conflicts.beginnings.Given as goal

abbrev pub invariant-loop-i : goal.invariant-loop-i
invariant-loop-i l = l.found.items ++ hits begins (map (λ e. e.path) (drop (l.i - 1) l.triples)) ≡ hits begins (map (λ e. e.path) l.triples)
