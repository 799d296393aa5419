use Rattle.ocfl_messages.specs.Closing.{back_line}
use Rattle.ocfl_messages.proofs.Made.{each_more}
use Rattle.ocfl_messages.proofs.closing.put_all_back_lines.Goals as goal

pub loop-place-preserved : goal.loop-place-preserved
loop-place-preserved c =
    each_more back_line c.args.back.now c.loop-place.place-index c.place-item.result c.args.text.now.items _ _
    c.loop-place-test.true c.place-item.is c.in_ok-put_back.ensures c.loop-place.invariant
