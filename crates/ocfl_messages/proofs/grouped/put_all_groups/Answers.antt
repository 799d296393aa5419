use Rattle.ocfl_messages.specs.Grouped.{sorted_of}
use Rattle.ocfl_messages.proofs.Groups.{fit_on}
use Rattle.ocfl_messages.proofs.grouped.put_all_groups.Goals as goal

pub loop-index-preserved : goal.loop-index-preserved
loop-index-preserved c =
    fit_on c.args.root.now (sorted_of c.args.sorted.now) c.args.leads.now c.loop-index.index c.loop-index.left c.in_ok-left.left c.index-leads-index.result c.loop-index.text.items c.put_fitting.new.text.items _
    c.loop-index-test.true c.index-leads-index.is c.in_ok-left.ensures.text c.in_ok-left.ensures.room c.loop-index.invariant
