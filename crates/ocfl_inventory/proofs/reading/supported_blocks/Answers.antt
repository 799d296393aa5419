use Rattle.ocfl_inventory.proofs.BlockChains.{block_stops, block_read}
use Rattle.ocfl_inventory.proofs.reading.supported_blocks.Goals as goal

pub returns-then-not-branch : goal.returns-then-not-branch
returns-then-not-branch c = block_stops _ _ _ _ _ _ c.loop-algorithm.invariant c.loop-algorithm-test.true c.take_for-value.ensures.value _ _ c.if-not-branch.true c.in_ok-take_block.ensures

pub loop-algorithm-preserved : goal.loop-algorithm-preserved
loop-algorithm-preserved c = block_read _ _ _ _ _ _ c.loop-algorithm.invariant c.loop-algorithm-test.true c.take_for-value.ensures.value _ _ _
    c.if-not-branch.false c.take_for-value.ensures.others c.in_ok-take_block.ensures
