use Rattle.std.proofs.Common.{◌≡◌, ◌++◌, map, take}
use Rattle.std.specs.Prelude.{flat_map}
use Rattle.ocfl_inventory.specs.{Internal.Parts.{supported_view}, Remark.{remark_view}}
use Rattle.ocfl_inventory.specs.Notes.{repeated_notes}
use Rattle.ocfl_inventory.proofs.notes.add_repeated_fixity.Given as goal

abbrev pub invariant-loop-supported : goal.invariant-loop-supported
invariant-loop-supported l = map remark_view l.out.items ≡ map remark_view l.initial.out.items ++ flat_map repeated_notes (supported_view (take l.supported-index l.fixity))
