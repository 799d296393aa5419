use Rattle.std.proofs.Common.{map, string_bytes}
use Rattle.ocfl_journal.specs.Ending.{left_earlier_text}
use Rattle.ocfl_journal.proofs.Texts.{put_more}
use Rattle.ocfl_journal.proofs.ending.put_left_earlier.Goals as goal

pub loop-branch-preserved : goal.loop-branch-preserved
loop-branch-preserved c =
    put_more left_earlier_text c.args.earlier.now c.loop-branch.branch-index c.branch-item.result (map string_bytes c.args.texts.now.items) c.loop-branch.texts.items c.push.new.self.items c.in_ok-left_earlier_text.field-0
    c.loop-branch-test.true c.branch-item.is c.in_ok-push.ensures.items c.in_ok-left_earlier_text.ensures c.loop-branch.invariant
