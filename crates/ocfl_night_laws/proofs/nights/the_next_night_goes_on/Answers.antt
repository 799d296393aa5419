use Rattle.std.proofs.Common.{◌≡◌, refl, true}
use Rattle.std.specs.Prelude.{IsTrue}
use Rattle.ocfl_night.specs.Beginning.{Position, StandsAt, position}
use Rattle.ocfl_night_laws.proofs.Readings.{begins_there}
use Rattle.ocfl_night.proofs.Runs.{left_so, made_so}
use Rattle.ocfl_night_laws.proofs.nights.the_next_night_goes_on.Goals as goal

pub returns : goal.returns
returns c = λ further plan next c0 d e f old new later last one two first second same.
    made_so (λ x k events is. left_so (λ (p : Position). IsTrue true → StandsAt d p) (λ (p : Position). position second.start ≡ p) plan one.end first.done x k events
    (λ p stands. begins_there further next.create d e second.start p (second.begins refl) same (stands refl)) is) first.runs
