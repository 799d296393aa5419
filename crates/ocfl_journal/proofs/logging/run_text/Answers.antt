use Rattle.ocfl_messages.specs.declared.log.LogRow.TheVariants as row
use Rattle.ocfl_journal.specs.Rows.{run_row}
use Rattle.ocfl_journal.proofs.Lines.{line_by}
use Rattle.ocfl_journal.proofs.logging.run_text.Goals as goal

pub returns : goal.returns
returns c =
    let made = c.args.made in
    line_by c.log_line.result (row.Slice c.run_row.result) (run_row c.args.night made.checkpoint.now made.cost made.status c.args.began c.args.now)
    c.run_row.ensures c.log_line.ensures
