use Rattle.ocfl_inventory.specs.Reading.{algorithm_in, algorithm_of, inventory_of, object_of, inventory_in}
use Rattle.ocfl_inventory.proofs.Stopped.{fails_then, stopped_algorithm, stopped_remarks, stopped_table}
use Rattle.ocfl_inventory.proofs.table.read_inventory.Goals as goal

pub returns-in-Err-clause-algorithm : goal.returns-in-Err-clause-algorithm
returns-in-Err-clause-algorithm c =
    stopped_algorithm c.stopped.result c.in-Err.why (algorithm_of c.args.bytes.now) c.stopped.ensures.remarks c.stopped.ensures.algorithm
    (fails_then c.in-Err.why (object_of c.args.bytes.now) algorithm_in c.in-Err.ensures)

pub returns-in-Err-clause-remarks : goal.returns-in-Err-clause-remarks
returns-in-Err-clause-remarks c =
    stopped_remarks c.stopped.result c.in-Err.why (inventory_of c.args.bytes.now) c.stopped.ensures.remarks (fails_then c.in-Err.why (object_of c.args.bytes.now) inventory_in c.in-Err.ensures)

pub returns-in-Err-clause-table : goal.returns-in-Err-clause-table
returns-in-Err-clause-table c =
    stopped_table c.stopped.result c.in-Err.why (inventory_of c.args.bytes.now) c.stopped.ensures.remarks c.stopped.ensures.table
    (fails_then c.in-Err.why (object_of c.args.bytes.now) inventory_in c.in-Err.ensures)
