use Rattle.ocfl_joining.specs.Crash.{Same}
use Rattle.ocfl_join_disk.proofs.Putting.{passes_by}
use Rattle.ocfl_join_disk.specs.declared.making.MakingReports.{MakingReports}
use Rattle.ocfl_join_disk.proofs.making.MakingReportsPartReports.give.Goals as goal

pub returns-clause-crash : goal.returns-clause-crash
returns-clause-crash g c = λ told.
    passes_by {F = MakingReports g.row.D.Denot g.row.D-Report.Denot g.row.D-Made.Denot g.D.JoinDisk g.D.Report.BufRead g.D.Report.Read} (λ s. g.D.JoinDisk.state s.parts.disk) (λ s. s.cycle) Same
    c.args.self.now _ c.flush.ensures.cycle (c.flush.ensures.crash told)
