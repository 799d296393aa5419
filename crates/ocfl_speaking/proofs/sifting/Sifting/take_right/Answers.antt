use Rattle.std.proofs.Common.{refl}
use Rattle.ocfl_speaking.proofs.Steps.{settled}
use Rattle.ocfl_speaking.proofs.sifting.Sifting.take_right.Goals as goal

pub returns-clause-read : goal.returns-clause-read
returns-clause-read c = λ known g h. settled known c.args.self.now _ g h c.requires (c.take_right.ensures.taken known) c.take_right.ensures.rest refl refl refl refl
