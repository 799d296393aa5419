use Rattle.ocfl_closed.proofs.Opened.{unchecked_bytes}
use Rattle.ocfl_closed.proofs.opening.open_reader.Goals as goal

pub returns-clause-bytes : goal.returns-clause-bytes
returns-clause-bytes g c = λ told.
    let O = g.D.Report.OpenReport in
    unchecked_bytes c.reader_of.result _ O.told (O.bytes c.in_ok-report.report) _ (g.met.D.ClosedDisk.reports told) (c.in_ok-report.ensures.bytes told) c.reader_of.ensures.bytes
