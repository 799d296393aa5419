use Rattle.std.proofs.Common.{refl}
use Rattle.ocfl_night.proofs.nights.unbegun.Goals as goal

pub returns-in-Refused-clause-said : goal.returns-in-Refused-clause-said
returns-in-Refused-clause-said c = λ well unrefused. unrefused _ refl

pub returns-in-Troubled-clause-said : goal.returns-in-Troubled-clause-said
returns-in-Troubled-clause-said c = λ well unrefused. well _ refl
