use Rattle.std.proofs.Common.{◌++◌, ◌∙◌, subst, List, ℕ}
use Rattle.std.specs.Option.{option_map}
use Rattle.ocfl_joining.specs.Crash.{MayPut}
use Rattle.ocfl_join_disk.specs.Shown.{made_of}
use Rattle.ocfl_join_disk.specs.Internal.Making.{PutsPass}
use Rattle.ocfl_join_disk.proofs.Putting.{none_put, passes_by, same_puts_then}
use Rattle.ocfl_join_disk.specs.declared.making.MakingReports.{MakingReports}
use Rattle.ocfl_join_disk.proofs.making.MakingReportsPartReports.put.Goals as goal

pub returns-in_err-flush-clause-crash : goal.returns-in_err-flush-clause-crash
returns-in_err-flush-clause-crash g c = λ told.
    passes_by {F = MakingReports g.row.D.Denot g.row.D-Report.Denot g.row.D-Made.Denot g.D.JoinDisk g.D.Report.BufRead g.D.Report.Read} (λ s. g.D.JoinDisk.state s.parts.disk) (λ s. s.cycle) _
    c.args.self.now _ c.flush.ensures.cycle (none_put _ _ _ _ (c.flush.ensures.crash told))

pub returns-clause-crash : goal.returns-clause-crash
returns-clause-crash g c = λ told.
    passes_by {F = MakingReports g.row.D.Denot g.row.D-Report.Denot g.row.D-Made.Denot g.D.JoinDisk g.D.Report.BufRead g.D.Report.Read} (λ s. g.D.JoinDisk.state s.parts.disk) (λ s. s.cycle) _
    c.args.self.now _ (c.name_made.ensures.cycle ∙ c.flush.ensures.cycle)
    (same_puts_then c.args.self.now.cycle _ _ _ _ (c.flush.ensures.crash told)
    (subst (λ n. PutsPass n (MayPut (record { whole = c.args.whole; bytes = made_of (g.D.JoinDisk.state c.args.self.now.parts.disk).seen.bytes (option_map g.D.JoinDisk.number c.args.self.now.made) ++ c.args.self.now.buffer.items })) (g.D.JoinDisk.state c.flush.new.self.parts.disk) (g.D.JoinDisk.state c.name_made.new.self.parts.disk)) c.flush.ensures.cycle
    (subst (λ (b : List ℕ). PutsPass c.flush.new.self.cycle (MayPut (record { whole = c.args.whole; bytes = b })) (g.D.JoinDisk.state c.flush.new.self.parts.disk) (g.D.JoinDisk.state c.name_made.new.self.parts.disk)) (c.in_ok-flush.ensures.made told)
    (c.name_made.ensures.crash told))))
