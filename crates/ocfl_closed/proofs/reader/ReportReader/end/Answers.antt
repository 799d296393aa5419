use Rattle.ocfl_closed.proofs.Checking.{met_at_end}
use Rattle.ocfl_closed.proofs.reader.ReportReader.end.Goals as goal

pub returns-then-is_met-clause-met : goal.returns-then-is_met-clause-met
returns-then-is_met-clause-met g c = λ told some over.
    let F = g.F.OpenReport in
    let me = c.args.self.now in
    met_at_end F.told me.check me.start (F.bytes me.file) c.is_met.result me.taken told over c.is_met.ensures c.if-is_met.true
