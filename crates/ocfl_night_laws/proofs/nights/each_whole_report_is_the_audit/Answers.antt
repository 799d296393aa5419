use Rattle.std.proofs.Common.{◌≡◌, [], Some}
use Rattle.ocfl_state.specs.Content.{Content, empty}
use Rattle.ocfl_night_laws.specs.Nights.{known_of, rounds_of}
use Rattle.ocfl_night_laws.proofs.AnyNights.{all_sound, are_in, at_any, closed_as, empty_sound, is_audit, is_audit_but}
use Rattle.ocfl_night_laws.proofs.nights.each_whole_report_is_the_audit.Goals as goal

pub returns-clause-unread : goal.returns-clause-unread
returns-clause-unread g c = λ further root part nights are over.
    at_any g.S.StateFolder nights (λ x is d among whole. is_audit_but further root nights over c.runs_that_stop_join.ensures.ended part d ((closed_as (rounds_of further part nights) x is d among).whole whole)) (all_sound g.S.StateFolder further part (Some (known_of nights)) (λ (x : Content). x ≡ empty) nights (are_in nights) (λ x is. ([], empty_sound (rounds_of further part nights) x is)) are)

pub returns-clause-exact : goal.returns-clause-exact
returns-clause-exact g c = λ further root part nights are over read.
    at_any g.S.StateFolder nights (λ x is d among whole. is_audit further root nights over c.runs_that_stop_join.ensures.ended part d ((closed_as (rounds_of further part nights) x is d among).whole whole) read) (all_sound g.S.StateFolder further part (Some (known_of nights)) (λ (x : Content). x ≡ empty) nights (are_in nights) (λ x is. ([], empty_sound (rounds_of further part nights) x is)) are)
