use Rattle.serde_json.specs.View.{members_view}
use Rattle.ocfl_inventory.specs.Reading.{behind_algorithm}
use Rattle.ocfl_inventory.proofs.{Fits.{read_fits}, Stopped.{stopped_remarks, stopped_table}}
use Rattle.ocfl_inventory.proofs.table.reading_behind_algorithm.Goals as goal

pub returns-in-Ok-clause-fit : goal.returns-in-Ok-clause-fit
returns-in-Ok-clause-fit c = read_fits c.in-Ok.ensures.reading.0 c.in-Ok.table c.in-Ok.ensures.reading.3 c.in-Ok.ensures.few

pub returns-in-Err-clause-remarks : goal.returns-in-Err-clause-remarks
returns-in-Err-clause-remarks c =
    stopped_remarks c.stopped.result c.in-Err.stop (behind_algorithm (members_view c.args.members.entries) c.args.algorithm) c.stopped.ensures.remarks c.in-Err.ensures.reading

pub returns-in-Err-clause-table : goal.returns-in-Err-clause-table
returns-in-Err-clause-table c =
    stopped_table c.stopped.result c.in-Err.stop (behind_algorithm (members_view c.args.members.entries) c.args.algorithm) c.stopped.ensures.remarks c.stopped.ensures.table c.in-Err.ensures.reading
