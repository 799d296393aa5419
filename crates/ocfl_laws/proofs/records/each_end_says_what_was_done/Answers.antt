use Rattle.ocfl_laws.proofs.RecordLaws.{check_by_end, check_by_stop, audit_by_end, audit_by_stop, run_by_end, run_by_limits, run_by_stop, no_run_where_worn, cycle_by_end, cycle_by_limits, cycle_by_stop}
use Rattle.ocfl_laws.proofs.records.each_end_says_what_was_done.Goals as goal

pub returns-clause-check : goal.returns-clause-check
returns-clause-check c = check_by_end

pub returns-clause-stopped_check : goal.returns-clause-stopped_check
returns-clause-stopped_check c = check_by_stop

pub returns-clause-audit : goal.returns-clause-audit
returns-clause-audit c = audit_by_end

pub returns-clause-stopped_audit : goal.returns-clause-stopped_audit
returns-clause-stopped_audit c = audit_by_stop

pub returns-clause-ended_run : goal.returns-clause-ended_run
returns-clause-ended_run c = run_by_end

pub returns-clause-spent_run : goal.returns-clause-spent_run
returns-clause-spent_run c = run_by_limits

pub returns-clause-stopped_run : goal.returns-clause-stopped_run
returns-clause-stopped_run c = run_by_stop

pub returns-clause-no_run : goal.returns-clause-no_run
returns-clause-no_run c = no_run_where_worn

pub returns-clause-ended_cycle : goal.returns-clause-ended_cycle
returns-clause-ended_cycle c = cycle_by_end

pub returns-clause-spent_cycle : goal.returns-clause-spent_cycle
returns-clause-spent_cycle c = cycle_by_limits

pub returns-clause-stopped_cycle : goal.returns-clause-stopped_cycle
returns-clause-stopped_cycle c = cycle_by_stop
