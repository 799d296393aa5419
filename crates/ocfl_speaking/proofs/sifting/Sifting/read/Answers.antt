use Rattle.std.proofs.Common.{refl, arith}
use Rattle.ocfl_speaking.proofs.Steps.{broke}
use Rattle.ocfl_speaking.proofs.sifting.Sifting.read.Goals as goal

pub returns-in-Err-Bad-clause-read : goal.returns-in-Err-Bad-clause-read
returns-in-Err-Bad-clause-read c = λ g h one not_passed.
    broke c.args.known.now c.args.self.now _ g c.args.text.now h one not_passed (c.in-Err-Bad.ensures.bad cc) (λ m k. omega (arith, k, c.saturating_add-self.ensures)) refl refl refl refl
