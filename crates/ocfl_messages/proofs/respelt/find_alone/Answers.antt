use Rattle.std.proofs.Common.{map}
use Rattle.ocfl_messages.specs.{Finding.{finding_of}, Grouped.{is_alone}}
use Rattle.ocfl_messages.proofs.Groups.{picked_on}
use Rattle.ocfl_messages.proofs.respelt.find_alone.Goals as goal

pub loop-index-preserved : goal.loop-index-preserved
loop-index-preserved c =
    picked_on (is_alone (map finding_of c.args.all.now)) c.args.all.now c.loop-index.index c.index-all-index.result _ (map finding_of c.loop-index.alone.items) (map finding_of c.add_if.new.taken.items) _
    c.loop-index-test.true c.index-all-index.is c.in_ok-is.ensures c.in_ok-add_if.ensures c.loop-index.invariant
