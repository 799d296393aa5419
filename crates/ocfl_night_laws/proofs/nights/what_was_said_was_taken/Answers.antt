use Rattle.std.proofs.Common.{◌≡◌, [], refl}
use Rattle.ocfl_state.specs.Content.{Content, empty}
use Rattle.ocfl_night.specs.Looks.{of_any}
use Rattle.ocfl_night_laws.proofs.AnyNights.{all_taken, empty_sound}
use Rattle.ocfl_night_laws.proofs.nights.what_was_said_was_taken.Goals as goal

pub returns : goal.returns
returns g c = λ further part nights are.
    all_taken g.S.StateFolder further part (λ (x : Content). x ≡ empty) [] nights (λ x is. ([], (empty_sound (of_any further part) x is, refl))) are
