use Rattle.std.proofs.Common.{◌∙◌, ap, sym}
use Rattle.ocfl_disk.specs.Names.{Stored, content_of}
use Rattle.ocfl_disk.proofs.{Reporting.{on_both}, Syncing.{all_synced}}
use Rattle.ocfl_disk.proofs.fs_state.FsState.sync_everything.Goals as goal

pub returns-clause-durable : goal.returns-clause-durable
returns-clause-durable g c = λ told.
    let first = c.sync_report.ensures.calm told in
    let calm = c.sync_folders.ensures.calm told in
    on_both c.sync_folders.result _ _ _
    (λ folder reports s left. all_synced _ s (g.met.D.Disk.is_disk told c.sync_folders.new.disk) folder reports
    (λ file is. calm.synced file (c.in_ok-sync_report.ensures.synced told file (sym (ap (λ (t : Stored). t.names.report) calm.seen) ∙ is))) left
    ∙ ap content_of (calm.seen ∙ first.seen))
    (c.sync_folders.ensures.folder told) (c.sync_folders.ensures.reports told)
