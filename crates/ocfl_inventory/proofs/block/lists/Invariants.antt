use Rattle.std.proofs.Common.{◌≡◌}
use Rattle.serde_json.specs.View.{members_view}
use Rattle.ocfl_inventory.specs.{Reading.{lists_of}, Internal.Parts.{block_view}}
use Rattle.ocfl_inventory.proofs.Blocks.{with_front}
use Rattle.ocfl_inventory.proofs.block.lists.Given as goal

abbrev pub invariant-loop-key : goal.invariant-loop-key
invariant-loop-key l = with_front (block_view l.block.items) (lists_of (members_view l.key-iterator)) ≡ lists_of (members_view l.fn.map.entries)
