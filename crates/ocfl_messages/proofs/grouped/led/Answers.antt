use Rattle.std.proofs.Common.{map}
use Rattle.std.specs.List.{list_any}
use Rattle.ocfl_messages.specs.{Finding.{finding_of}, Grouped.{is_with}}
use Rattle.ocfl_messages.proofs.Groups.{taken_more}
use Rattle.ocfl_messages.proofs.grouped.led.Goals as goal

pub loop-finding-preserved : goal.loop-finding-preserved
loop-finding-preserved c =
    taken_more (λ f. list_any (is_with f) (map finding_of c.args.leads.now)) c.args.all.now c.loop-finding.finding-index c.finding-item.result _ _
    c.loop-finding-test.true c.finding-item.is c.in_ok-add_led.ensures c.loop-finding.invariant
