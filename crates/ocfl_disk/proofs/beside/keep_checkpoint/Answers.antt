use Rattle.ocfl_disk.proofs.Quiets.{of_calm}
use Rattle.ocfl_disk.proofs.beside.keep_checkpoint.Goals as goal

pub returns-in_default-clause-quiet : goal.returns-in_default-clause-quiet
returns-in_default-clause-quiet g c = λ told. of_calm _ _ (c.read_front.ensures.calm told)
