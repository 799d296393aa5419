use Rattle.ocfl_item.proofs.WantedLaws.{wanted_step}
use Rattle.ocfl_item.proofs.pending.Pending.wanted.Goals as goal

pub loop-expected-preserved : goal.loop-expected-preserved
loop-expected-preserved c = wanted_step c.loop-expected.wanted c.with-wanted.result c.deref-expected-items.result.now c.loop-expected.expected-index c.expected-item.result
    c.loop-expected-test.true c.expected-item.is c.with-wanted.ensures.added c.with-wanted.ensures.others c.loop-expected.invariant
