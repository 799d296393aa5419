use Rattle.serde_json.specs.View.{members_view}
use Rattle.ocfl_inventory.specs.Reading.{algorithm_in, behind_algorithm, inventory_in}
use Rattle.ocfl_inventory.proofs.Stopped.{fails_then, stopped_algorithm, stopped_remarks, stopped_table}
use Rattle.ocfl_inventory.proofs.table.reading_of_members.Goals as goal

pub returns-in-Err-clause-algorithm : goal.returns-in-Err-clause-algorithm
returns-in-Err-clause-algorithm c =
    stopped_algorithm c.stopped.result c.in-Err.stop (algorithm_in (members_view c.args.members.entries)) c.stopped.ensures.remarks c.stopped.ensures.algorithm c.in-Err.ensures

pub returns-in-Err-clause-remarks : goal.returns-in-Err-clause-remarks
returns-in-Err-clause-remarks c =
    let ms = members_view c.args.members.entries in
    stopped_remarks c.stopped.result c.in-Err.stop (inventory_in ms) c.stopped.ensures.remarks (fails_then c.in-Err.stop (algorithm_in ms) (behind_algorithm ms) c.in-Err.ensures)

pub returns-in-Err-clause-table : goal.returns-in-Err-clause-table
returns-in-Err-clause-table c =
    let ms = members_view c.args.members.entries in
    stopped_table c.stopped.result c.in-Err.stop (inventory_in ms) c.stopped.ensures.remarks c.stopped.ensures.table (fails_then c.in-Err.stop (algorithm_in ms) (behind_algorithm ms) c.in-Err.ensures)
