use Rattle.ocfl_messages.proofs.Groups.{leads_more}
use Rattle.ocfl_messages.proofs.grouped.leads_of.Goals as goal

pub loop-finding-preserved : goal.loop-finding-preserved
loop-finding-preserved c = leads_more c.args.all.now c.loop-finding.finding-index c.finding-item.result _ _ c.loop-finding-test.true c.finding-item.is c.in_ok-add_lead.ensures c.loop-finding.invariant
