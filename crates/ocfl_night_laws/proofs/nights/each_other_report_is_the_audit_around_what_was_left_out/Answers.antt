use Rattle.std.proofs.Common.{◌≡◌, [], Some}
use Rattle.ocfl_state.specs.Content.{Content, empty}
use Rattle.ocfl_night_laws.specs.Nights.{known_of, rounds_of}
use Rattle.ocfl_night_laws.proofs.AnyNights.{all_sound, are_in, at_any, closed_as, empty_sound, is_around}
use Rattle.ocfl_night_laws.proofs.nights.each_other_report_is_the_audit_around_what_was_left_out.Goals as goal

pub returns : goal.returns
returns g c = λ further root part nights are over read.
    at_any g.S.StateFolder nights (λ x is d among other. is_around further root nights over c.runs_that_stop_join.ensures.ended part read d ((closed_as (rounds_of further part nights) x is d among).partial other))
    (all_sound g.S.StateFolder further part (Some (known_of nights)) (λ (x : Content). x ≡ empty) nights (are_in nights) (λ x is. ([], empty_sound (rounds_of further part nights) x is)) are)
