use Rattle.std.proofs.Common.{◌∙◌, ap, take}
use Rattle.ocfl_disk.proofs.Quiets.{still_of_calm}
use Rattle.ocfl_disk.proofs.Reporting.{on_ok, report_was, report_is, tear_passes, cut_nothing}
use Rattle.ocfl_disk.proofs.fs_state.FsState.cut_report.Goals as goal

pub returns-in-Some-clause-cut : goal.returns-in-Some-clause-cut
returns-in-Some-clause-cut g c = λ told.
    let still = still_of_calm _ _ (c.report_length.ensures.calm told) in
    let is = c.report_length.new.self.open told c.in-Some.file c.in-Some.is in
    let disk = g.met.D.Disk.is_disk told c.report_length.new.self.disk in
    on_ok c.cut.result _ _ (λ now. report_is _ _ _ _ _ _ _ still disk is (c.cut.ensures.writes told) (now ∙ ap (take c.args.most) (report_was _ _ _ still is))) (c.cut.ensures.cut told)

pub returns-in-Some-clause-passes : goal.returns-in-Some-clause-passes
returns-in-Some-clause-passes g c = λ told.
    tear_passes _ _ _ _ _ _ (still_of_calm _ _ (c.report_length.ensures.calm told)) (g.met.D.Disk.is_disk told c.report_length.new.self.disk)
    (c.report_length.new.self.open told c.in-Some.file c.in-Some.is) (c.cut.ensures.writes told)

pub returns-in-None-clause-cut : goal.returns-in-None-clause-cut
returns-in-None-clause-cut g c = λ told. cut_nothing c.args.most _ _ (c.report_length.ensures.calm told) (c.in_ok-report_length.ensures.none told c.in-None.is)
