use Rattle.std.proofs.Common.{◌≡◌, ◌++◌, map, drop}
use Rattle.ocfl_inventory.specs.{Remark.{remark_view}}
use Rattle.ocfl_inventory.proofs.PathTexts.{faults_in}
use Rattle.ocfl_inventory.proofs.notes.add_each_fault.Given as goal

abbrev pub invariant-loop-text : goal.invariant-loop-text
invariant-loop-text l = map remark_view l.out.items ++ faults_in l.content (drop l.text-index l.texts) ≡ map remark_view l.initial.out.items ++ faults_in l.content l.texts
