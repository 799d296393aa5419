use Rattle.ocfl_disk.proofs.Quiets.{still_then, still_of_calm, still_of_make_report}
use Rattle.ocfl_disk.proofs.fs_state.FsState.make_report.Goals as goal

pub returns-in_ok-create-clause-still : goal.returns-in_ok-create-clause-still
returns-in_ok-create-clause-still g c = λ told. still_then _ _ _ (still_of_calm _ _ (c.find_report.ensures.calm told)) (still_of_make_report _ _ _ (c.in_ok-create.ensures.made told))
