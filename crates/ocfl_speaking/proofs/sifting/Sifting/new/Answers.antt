use Rattle.std.proofs.Common.{refl}
use Rattle.ocfl_speaking.proofs.Steps.{begun}
use Rattle.ocfl_speaking.specs.Sifting.{first_given}
use Rattle.ocfl_speaking.proofs.sifting.Sifting.new.Goals as goal

pub returns : goal.returns
returns c = λ known. begun known _ (first_given c.args.before.last) (c.new.ensures known) c.new-2.ensures.items c.new-3.ensures.items refl refl tt refl
