use Rattle.std.proofs.Common.{◌≡◌, ◌++◌, map, take}
use Rattle.ocfl_inventory.specs.{Internal.ListsOf.{repeated_note}, Remark.{remark_view}}
use Rattle.ocfl_inventory.proofs.notes.add_repeated.Given as goal

abbrev pub invariant-loop-key : goal.invariant-loop-key
invariant-loop-key l = map remark_view l.out.items ≡ map remark_view l.initial.out.items ++ map (repeated_note l.algorithm) (take l.key-index l.key-items)
