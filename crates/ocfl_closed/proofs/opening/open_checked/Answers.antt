use Rattle.ocfl_closed.proofs.Opened.{checked_bytes}
use Rattle.ocfl_closed.proofs.opening.open_checked.Goals as goal

pub returns-clause-bytes : goal.returns-clause-bytes
returns-clause-bytes g c = λ told.
    let D = g.D.ClosedDisk in
    let O = g.D.Report.OpenReport in
    checked_bytes c.reader_of.result _ O.told c.in_ok-check.check (O.bytes c.in_ok-report.report) (D.state c.args.disk.now).files (D.state c.open_closed.new.disk).files c.args.cycle
    (g.met.D.ClosedDisk.reports told) (c.open_closed.ensures.still told).calm.files (c.in_ok-report.ensures.bytes told) (c.in_ok-check.ensures.met told) c.reader_of.ensures.bytes
