use Rattle.std.proofs.Common.{◌∙◌}
use Rattle.ocfl_item.proofs.ExpectedLaws.{unexpected_done, unexpected_step}
use Rattle.ocfl_item.proofs.file_lines.add_each_unexpected.Goals as goal

pub loop-entry-preserved : goal.loop-entry-preserved
loop-entry-preserved c = (
  c.in_ok-add_unexpected.ensures.place ∙ c.loop-entry.invariant.0,
  unexpected_step c.args.lines.now c.loop-entry.lines c.add_unexpected.new.lines c.args.expected.now c.loop-entry.entry-index c.entry-item.result c.args.digests.now
      c.loop-entry-test.true c.entry-item.is c.in_ok-add_unexpected.ensures.lines c.loop-entry.invariant.1,
)

pub returns-clause-lines : goal.returns-clause-lines
returns-clause-lines c = unexpected_done c.args.lines.now c.loop-entry.lines c.args.expected.now c.loop-entry.entry-index c.args.digests.now c.loop-entry-test.false c.loop-entry.invariant.1
