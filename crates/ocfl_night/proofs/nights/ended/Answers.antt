use Rattle.std.proofs.Common.{refl}
use Rattle.ocfl_night.proofs.nights.ended.Goals as goal

pub returns-in-Err-clause-said : goal.returns-in-Err-clause-said
returns-in-Err-clause-said c = λ well. absurd (well _ refl)
