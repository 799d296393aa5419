use Rattle.std.proofs.Common.{refl}
use Rattle.ocfl_journal.specs.Rows.{began_row}
use Rattle.ocfl_journal.proofs.Lines.{logs_row}
use Rattle.ocfl_journal.proofs.logging.Journal.began.Goals as goal

pub returns-clause-logged : goal.returns-clause-logged
returns-clause-logged g c = λ told.
    logs_row (began_row c.args.self.now.night c.args.checkpoint.now c.args.reading.now) _ _ _ c.now-time.result _ _
    (c.now-time.ensures told) refl c.in_ok-line.ensures c.as_str.ensures.value (c.append.ensures.taken told)
