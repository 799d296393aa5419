use Rattle.ocfl_joining.specs.Crash.{Same}
use Rattle.ocfl_join_disk.proofs.Putting.{calm_puts, passes_by, two_calm}
use Rattle.ocfl_join_disk.specs.declared.making.MakingReports.{MakingReports}
use Rattle.ocfl_join_disk.proofs.making.MakingReportsPartReports.find_word.Goals as goal

pub returns-in_err-flush-clause-crash : goal.returns-in_err-flush-clause-crash
returns-in_err-flush-clause-crash g c = λ told.
    passes_by {F = MakingReports g.row.D.Denot g.row.D-Report.Denot g.row.D-Made.Denot g.D.JoinDisk g.D.Report.BufRead g.D.Report.Read} (λ s. g.D.JoinDisk.state s.parts.disk) (λ s. s.cycle) Same
    c.args.self.now _ c.flush.ensures.cycle (c.flush.ensures.crash told)

pub returns-in_err-word-clause-crash : goal.returns-in_err-word-clause-crash
returns-in_err-word-clause-crash g c = λ told.
    passes_by {F = MakingReports g.row.D.Denot g.row.D-Report.Denot g.row.D-Made.Denot g.D.JoinDisk g.D.Report.BufRead g.D.Report.Read} (λ s. g.D.JoinDisk.state s.parts.disk) (λ s. s.cycle) Same
    c.args.self.now _ c.flush.ensures.cycle (two_calm _ _ _ _ (c.flush.ensures.crash told) (calm_puts _ _ _ (c.find_word.ensures.calm told)))

pub returns-clause-crash : goal.returns-clause-crash
returns-clause-crash g c = λ told.
    passes_by {F = MakingReports g.row.D.Denot g.row.D-Report.Denot g.row.D-Made.Denot g.D.JoinDisk g.D.Report.BufRead g.D.Report.Read} (λ s. g.D.JoinDisk.state s.parts.disk) (λ s. s.cycle) Same
    c.args.self.now _ c.flush.ensures.cycle (two_calm _ _ _ _ (c.flush.ensures.crash told) (calm_puts _ _ _ (c.find_word.ensures.calm told)))
