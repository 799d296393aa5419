use Rattle.ocfl_disk.proofs.Quiets.{then, of_calm, written_beside}
use Rattle.ocfl_disk.proofs.beside.write_beside.Goals as goal

pub returns-in_err-append-clause-quiet : goal.returns-in_err-append-clause-quiet
returns-in_err-append-clause-quiet g c = λ told. written_beside _ _ _ _ _ _ _ (c.in_ok-remove_new.ensures.drops told) (c.in_ok-file.ensures.made told) (g.met.D.Disk.is_disk told c.create.new.self) (c.append.ensures.writes told)

pub returns-clause-quiet : goal.returns-clause-quiet
returns-clause-quiet g c = λ told. then _ _ _
    (written_beside _ _ _ _ _ _ _ (c.in_ok-remove_new.ensures.drops told) (c.in_ok-file.ensures.made told) (g.met.D.Disk.is_disk told c.create.new.self) (c.append.ensures.writes told))
    (of_calm _ _ (c.sync.ensures.calm told))
