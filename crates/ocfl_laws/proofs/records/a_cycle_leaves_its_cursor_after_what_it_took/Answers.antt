use Rattle.ocfl_laws.proofs.RecordLaws.{cycle_is_the_first, cycle_of_the_audit, cursor_of_the_last_run, cursor_of_a_spent_cycle, cursor_of_a_stopped_cycle}
use Rattle.ocfl_laws.proofs.records.a_cycle_leaves_its_cursor_after_what_it_took.Goals as goal

pub returns-clause-cycle : goal.returns-clause-cycle
returns-clause-cycle c = cycle_is_the_first

pub returns-clause-audit : goal.returns-clause-audit
returns-clause-audit c = cycle_of_the_audit

pub returns-clause-ended : goal.returns-clause-ended
returns-clause-ended c = cursor_of_the_last_run

pub returns-clause-spent : goal.returns-clause-spent
returns-clause-spent c = cursor_of_a_spent_cycle

pub returns-clause-stopped : goal.returns-clause-stopped
returns-clause-stopped c = cursor_of_a_stopped_cycle
