use Rattle.std.proofs.Common.{◌++◌, ◌∙◌, ap, subst, length}
use Rattle.ocfl_state.specs.{Content.{Bytes}, Crash.{MayTear}}
use Rattle.ocfl_disk.specs.{PowerCut.{Passes}, Internal.Contents.{OfContent}}
use Rattle.ocfl_disk.proofs.Reporting.{on_ok, report_was, report_is, tear_passes}
use Rattle.ocfl_disk.proofs.fs_state.FsState.append_to_report.Goals as goal

pub returns-in-Some-clause-appended : goal.returns-in-Some-clause-appended
returns-in-Some-clause-appended g c = λ told.
    let still = c.make_report.ensures.still told in
    let is = c.make_report.new.self.open told c.in-Some.file c.in-Some.is in
    let disk = g.met.D.Disk.is_disk told c.make_report.new.self.disk in
    on_ok c.append.result _ _ (λ now. report_is _ _ _ _ _ _ _ still disk is (c.append.ensures.writes told) (now ∙ ap (λ (b : Bytes). b ++ c.args.bytes.now) (report_was _ _ _ still is))) (c.append.ensures.appended told)

pub returns-in-Some-clause-passes : goal.returns-in-Some-clause-passes
returns-in-Some-clause-passes g c = λ told.
    let still = c.make_report.ensures.still told in
    let is = c.make_report.new.self.open told c.in-Some.file c.in-Some.is in
    let disk = g.met.D.Disk.is_disk told c.make_report.new.self.disk in
    subst (λ (b : Bytes). Passes (OfContent (MayTear (length b) (length (b ++ c.args.bytes.now)))) (g.D.Disk.state c.args.self.now.disk) (g.D.Disk.state c.append.new.self))
    (report_was _ _ _ still is) (tear_passes _ _ _ _ _ _ still disk is (c.append.ensures.writes told))
