use Rattle.std.proofs.Common.{◌∙◌, ap}
use Rattle.ocfl_disk.specs.Names.{Stored}
use Rattle.ocfl_disk.proofs.Quiets.{still_then, still_of_calm, still_of_quiet}
use Rattle.ocfl_disk.proofs.Reporting.{named_report, always}
use Rattle.ocfl_disk.proofs.fs_state.FsState.prepare_closing.Goals as goal

pub returns-clause-still : goal.returns-clause-still
returns-clause-still g c = λ told. still_then _ _ _ (c.make_report.ensures.still told) (still_then _ _ _ (still_of_calm _ _ (c.sync_report.ensures.calm told))
    (still_then _ _ _ (still_of_calm _ _ (c.make_reports.ensures.calm told)) (still_of_quiet _ _ (c.keep_checkpoint.ensures.quiet told))))

pub returns-clause-there : goal.returns-clause-there
returns-clause-there g c = λ told. always c.keep_checkpoint.result _ (named_report g.D.Disk.number c.make_report.new.self.report _ _
    ((c.keep_checkpoint.ensures.quiet told).report ∙ ap (λ (s : Stored). s.names.report) ((c.make_reports.ensures.calm told).seen ∙ (c.sync_report.ensures.calm told).seen))
    (c.make_report.new.self.open told) c.in_ok-make_report.ensures.there)
