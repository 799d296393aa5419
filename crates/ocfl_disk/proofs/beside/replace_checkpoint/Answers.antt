use Rattle.std.proofs.Common.{inr}
use Rattle.ocfl_disk.proofs.Quiets.{put_passes, put_and_calm}
use Rattle.ocfl_disk.proofs.beside.replace_checkpoint.Goals as goal

pub returns-in_err-rename_new-clause-replaces : goal.returns-in_err-rename_new-clause-replaces
returns-in_err-rename_new-clause-replaces g c = λ told.
    put_passes _ _ _ _ (c.write_beside.ensures.quiet told) (c.in_ok-write_beside.ensures.written told) (g.met.D.Disk.is_disk told c.write_beside.new.disk) (c.in_err-rename_new.ensures.puts told)

pub returns-clause-replaces : goal.returns-clause-replaces
returns-clause-replaces g c = λ told. put_and_calm _ _ _ _
    (put_passes _ _ _ _ (c.write_beside.ensures.quiet told) (c.in_ok-write_beside.ensures.written told) (g.met.D.Disk.is_disk told c.write_beside.new.disk) (inr (c.in_ok-rename_new.ensures.puts told)))
    (c.sync_folder.ensures.calm told)
