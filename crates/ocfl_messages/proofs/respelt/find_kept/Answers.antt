use Rattle.std.proofs.Common.{map}
use Rattle.std.specs.Prelude.{not}
use Rattle.ocfl_messages.specs.{Finding.{finding_of}, Grouped.{is_beside}}
use Rattle.ocfl_messages.proofs.Groups.{taken_more}
use Rattle.ocfl_messages.proofs.respelt.find_kept.Goals as goal

pub loop-finding-preserved : goal.loop-finding-preserved
loop-finding-preserved c =
    taken_more (λ f. not (is_beside (map finding_of c.args.respelt.now) f)) c.args.all.now c.loop-finding.finding-index c.finding-item.result _ _
    c.loop-finding-test.true c.finding-item.is c.in_ok-add_kept.ensures c.loop-finding.invariant
