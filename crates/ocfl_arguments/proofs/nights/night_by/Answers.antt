use Rattle.std.proofs.Common.{refl}
use Rattle.ocfl_arguments.proofs.nights.night_by.Goals as goal

pub returns-in_default : goal.returns-in_default
returns-in_default c = record { found = tt; missing = λ none night h. c.in_default.ensures.missing refl night.bounds h.bounds }
