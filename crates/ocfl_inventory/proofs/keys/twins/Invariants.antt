use Rattle.std.proofs.Common.{◌≡◌, ◌++◌, ◌-◌, drop}
use Rattle.ocfl_tree.specs.Place.{text_eq}
use Rattle.ocfl_inventory.specs.Internal.Beside.{hits}
use Rattle.ocfl_inventory.proofs.keys.twins.Given as goal

abbrev pub invariant-loop-i : goal.invariant-loop-i
invariant-loop-i l = l.found.items ++ hits text_eq (drop (l.i - 1) l.keys) ≡ hits text_eq l.keys
