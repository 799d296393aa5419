use Rattle.std.proofs.Common.{drop}
use Rattle.serde_json.specs.View.{members_view}
use Rattle.ocfl_inventory.specs.Internal.Parts.{supported_view}
use Rattle.ocfl_inventory.proofs.BlockChains.{AreLeft}
use Rattle.ocfl_inventory.proofs.reading.supported_blocks.Given as goal

abbrev pub invariant-loop-algorithm : goal.invariant-loop-algorithm
invariant-loop-algorithm l = AreLeft (members_view l.initial.map.entries) (members_view l.map.entries) (supported_view l.found.items) (drop l.algorithm-index l.algorithm-items)
