use Rattle.std.proofs.{Common.{ap}, lemmas.Result.{err_from_is_err_and}}
use Rattle.ocfl_tree.specs.Store.{Store}
use Rattle.ocfl_folder.specs.Internal.Absence.{IsAbsent}
use Rattle.ocfl_folder.proofs.{Ways.{no_file}, Answering.{opened_at}}
use Rattle.ocfl_folder.proofs.stand.Stand.file.Goals as goal

pub returns-in_err-stand_in-2-clause-opened : goal.returns-in_err-stand_in-2-clause-opened
returns-in_err-stand_in-2-clause-opened g c = λ told.
    let p = err_from_is_err_and c.from_residual-in_err-stand_in-2.result c.from_residual-in_err-stand_in-2.ensures.1 in
    rw (p.1, p.2) (λ absent bytes. no_file _ _ _ _ bytes c.in-Some.ensures.0 (c.in_err-stand_in-2.ensures.here told absent))

pub returns-clause-opened : goal.returns-clause-opened
returns-clause-opened g c = λ told. opened_at g.S.System.rest IsAbsent c.open_here.result _ _ _ _ _ (ap (λ (s : Store). s.tree) (c.stand_in-2.ensures.store told)) c.in-Some.ensures.0
    (c.open_here.ensures told _ (c.in_ok-stand_in-2.ensures.here told))
