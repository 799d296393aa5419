use Rattle.std.proofs.Common.{◌≡◌, take}
use Rattle.ocfl_inventory.specs.{Notes.{folded_keys}, Internal.Parts.{block_view}}
use Rattle.ocfl_inventory.proofs.notes.keys.Given as goal

abbrev pub invariant-loop-listing : goal.invariant-loop-listing
invariant-loop-listing l = l.found.items ≡ folded_keys (block_view (take l.listing-index l.block))
