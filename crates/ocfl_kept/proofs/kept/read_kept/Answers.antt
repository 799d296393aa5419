use Rattle.ocfl_kept.proofs.Readings.{kept_by_all}
use Rattle.ocfl_kept.proofs.kept.read_kept.Goals as goal

pub returns-in-Ok-clause-value : goal.returns-in-Ok-clause-value
returns-in-Ok-clause-value g c = λ shown. kept_by_all c.kept_by.result _ _ (c.in-Ok.ensures.value shown) c.kept_by.ensures.value
