use Rattle.std.proofs.Common.{refl}
use Rattle.ocfl_journal.specs.Rows.{run_row}
use Rattle.ocfl_journal.proofs.Lines.{logs_row}
use Rattle.ocfl_journal.proofs.logging.Journal.run.Goals as goal

pub returns-clause-logged : goal.returns-clause-logged
returns-clause-logged g c = λ told.
    logs_row (run_row c.args.self.now.night c.args.made.checkpoint.now c.args.made.cost c.args.made.status c.args.began) _ _ _ c.now-now.result _ _
    (c.now-now.ensures told) refl c.in_ok-line.ensures c.as_str.ensures.value (c.append.ensures.taken told)
