use Rattle.ocfl_messages.specs.Closing.{gone_line}
use Rattle.ocfl_messages.proofs.Made.{each_more}
use Rattle.ocfl_messages.proofs.closing.put_all_lines.Goals as goal

pub loop-one-preserved : goal.loop-one-preserved
loop-one-preserved c =
    each_more gone_line c.args.gone.now c.loop-one.one-index c.one-item.result c.args.text.now.items _ _
    c.loop-one-test.true c.one-item.is c.in_ok-put_gone.ensures c.loop-one.invariant
