use Rattle.ocfl_inventory.proofs.TableSearch.{AreNotAbove}
use Rattle.ocfl_inventory.proofs.table.first_above_from.Given as goal

abbrev pub invariant-loop-index : goal.invariant-loop-index
invariant-loop-index l = AreNotAbove l.place l.triples l.index
