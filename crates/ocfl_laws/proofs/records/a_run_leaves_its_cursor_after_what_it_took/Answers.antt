use Rattle.ocfl_laws.proofs.RecordLaws.{run_began_at_the_first, run_began_again, run_went_on, cursor_from_the_first, cursor_from_a_place, cursor_of_the_next_cycle, cursor_of_the_audit, cursor_of_the_end, cursor_of_a_spent_run, cursor_of_a_stopped_run}
use Rattle.ocfl_laws.proofs.records.a_run_leaves_its_cursor_after_what_it_took.Goals as goal

pub returns-clause-begins : goal.returns-clause-begins
returns-clause-begins c = run_began_at_the_first

pub returns-clause-begins_again : goal.returns-clause-begins_again
returns-clause-begins_again c = run_began_again

pub returns-clause-goes_on : goal.returns-clause-goes_on
returns-clause-goes_on c = run_went_on

pub returns-clause-first : goal.returns-clause-first
returns-clause-first c = cursor_from_the_first

pub returns-clause-further : goal.returns-clause-further
returns-clause-further c = cursor_from_a_place

pub returns-clause-next : goal.returns-clause-next
returns-clause-next c = cursor_of_the_next_cycle

pub returns-clause-audit : goal.returns-clause-audit
returns-clause-audit c = cursor_of_the_audit

pub returns-clause-ended : goal.returns-clause-ended
returns-clause-ended c = cursor_of_the_end

pub returns-clause-spent : goal.returns-clause-spent
returns-clause-spent c = cursor_of_a_spent_run

pub returns-clause-stopped : goal.returns-clause-stopped
returns-clause-stopped c = cursor_of_a_stopped_run
