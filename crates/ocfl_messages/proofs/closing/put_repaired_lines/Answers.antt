use Rattle.ocfl_report.specs.Line.{line_of}
use Rattle.ocfl_messages.specs.Closing.{repaired_line}
use Rattle.ocfl_messages.proofs.Made.{each_of_more}
use Rattle.ocfl_messages.proofs.closing.put_repaired_lines.Goals as goal

pub loop-line-preserved : goal.loop-line-preserved
loop-line-preserved c =
    each_of_more repaired_line line_of c.args.lines.now c.loop-line.line-index c.line-item.result c.args.text.now.items _ _
    c.loop-line-test.true c.line-item.is c.in_ok-put_repaired_line.ensures c.loop-line.invariant
