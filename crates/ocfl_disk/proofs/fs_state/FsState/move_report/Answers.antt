use Rattle.std.proofs.Common.{◌∙◌, ap, inr}
use Rattle.ocfl_state.specs.{Crash.{MayMove}}
use Rattle.ocfl_disk.specs.Names.{content_of}
use Rattle.ocfl_disk.proofs.Quiets.{then_calm_content}
use Rattle.ocfl_disk.proofs.Reporting.{on_ok, on_both, no_name_after, close_passes, close_seen, close_durable}
use Rattle.ocfl_disk.proofs.fs_state.FsState.move_report.Goals as goal

pub rename_report-requires-clause-new : goal.rename_report-requires-clause-new
rename_report-requires-clause-new g c = λ told. no_name_after c.args.cycle c.args.whole _ _ (c.prepare_closing.ensures.still told) (c.requires told)

pub returns-in_err-rename_report-clause-passes : goal.returns-in_err-rename_report-clause-passes
returns-in_err-rename_report-clause-passes g c = λ told. close_passes _ _ _ _ _ (c.prepare_closing.ensures.still told) (c.in_ok-prepare_closing.ensures.there told) (c.in_err-rename_report.ensures.closes told)

pub returns-clause-closed : goal.returns-clause-closed
returns-clause-closed g c = λ told. on_ok c.sync_folders.result _ _
    (λ _. ap content_of (c.sync_folders.ensures.calm told).seen ∙ close_seen _ _ _ _ _ (c.prepare_closing.ensures.still told) (c.in_ok-prepare_closing.ensures.there told) (c.in_ok-rename_report.ensures.closes told))
    (c.sync_folders.ensures.folder told)

pub returns-clause-durable : goal.returns-clause-durable
returns-clause-durable g c = λ told. on_both c.sync_folders.result _ _ _
    (λ folder reports. close_durable _ _ _ _ _ _ (c.prepare_closing.ensures.still told) (g.met.D.Disk.is_disk told c.prepare_closing.new.self.disk) (c.in_ok-prepare_closing.ensures.there told)
    (c.in_ok-rename_report.ensures.closes told) (c.sync_folders.ensures.calm told) (λ s left. (g.met.D.Disk.is_disk told c.sync_folders.new.disk).names s folder reports left))
    (c.sync_folders.ensures.folder told) (c.sync_folders.ensures.reports told)

pub returns-clause-passes : goal.returns-clause-passes
returns-clause-passes g c = λ told. then_calm_content (MayMove c.args.cycle c.args.whole) _ _ _
    (close_passes _ _ _ _ _ (c.prepare_closing.ensures.still told) (c.in_ok-prepare_closing.ensures.there told) (inr (c.in_ok-rename_report.ensures.closes told)))
    (c.sync_folders.ensures.calm told)
