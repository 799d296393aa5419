use Rattle.std.proofs.Common.{◌≡◌, ◌++◌, map, take}
use Rattle.ocfl_tree.specs.Path.{slashed}
use Rattle.ocfl_inventory.specs.{Note.{note}, Remark.{remark_view}}
use Rattle.ocfl_report.specs.declared.code.Code.TheVariants.{E101}
use Rattle.ocfl_inventory.proofs.notes.add_conflicts.Given as goal

abbrev pub invariant-loop-place : goal.invariant-loop-place
invariant-loop-place l = map remark_view l.out.items ≡ map remark_view l.initial.out.items ++ map (λ p. note E101 (slashed p)) (take l.place-index l.places)
