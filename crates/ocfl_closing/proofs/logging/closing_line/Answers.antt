use Rattle.ocfl_closing.proofs.Logged.{line_so}
use Rattle.ocfl_closing.proofs.logging.closing_line.Goals as goal

pub returns : goal.returns
returns c = line_so c.log_line.result c.args.time c.args.night c.args.pair.now c.args.account.now c.args.list.now c.row_of-row.result c.row_of-row.ensures c.log_line.ensures
