use Rattle.std.proofs.Common.{map}
use Rattle.ocfl_messages.specs.{Finding.{finding_of}, Grouped.{respelt_member_text}}
use Rattle.ocfl_messages.proofs.Groups.{each_on}
use Rattle.ocfl_messages.proofs.grouped.put_respelt_members.Goals as goal

pub loop-index-preserved : goal.loop-index-preserved
loop-index-preserved c =
    each_on (respelt_member_text (finding_of c.args.first.now) (map finding_of c.args.all.now)) c.args.all.now c.loop-index.index c.index-all-index.result c.loop-index.text.items c.put_respelt_member.new.text.items _
    c.loop-index-test.true c.index-all-index.is c.in_ok-put_respelt_member.ensures c.loop-index.invariant
