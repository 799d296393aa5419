use Rattle.std.proofs.Common.{◌≡◌, [], Some}
use Rattle.ocfl_state.specs.Content.{Content, empty}
use Rattle.ocfl_night_laws.specs.Nights.{known_of, rounds_of}
use Rattle.ocfl_night_laws.proofs.AnyNights.{all_sound, are_in, at_any, empty_sound, sound_whole}
use Rattle.ocfl_night_laws.proofs.nights.nights_are_sound.Goals as goal

pub returns-clause-sound : goal.returns-clause-sound
returns-clause-sound g c = λ further part nights are.
    all_sound g.S.StateFolder further part (Some (known_of nights)) (λ (x : Content). x ≡ empty) nights (are_in nights) (λ x is. ([], empty_sound (rounds_of further part nights) x is)) are

pub returns-clause-whole : goal.returns-clause-whole
returns-clause-whole g c = λ further part nights are.
    at_any g.S.StateFolder nights (λ x sound. sound_whole (rounds_of further part nights) x sound) (returns-clause-sound g c further part nights are)
