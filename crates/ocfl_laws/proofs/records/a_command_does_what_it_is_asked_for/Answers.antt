use Rattle.ocfl_laws.proofs.RecordLaws.{audit_performed, clean_audit_performed, check_performed, cycle_performed, run_performed, show_performed}
use Rattle.ocfl_laws.proofs.records.a_command_does_what_it_is_asked_for.Goals as goal

pub returns-clause-audit : goal.returns-clause-audit
returns-clause-audit c = audit_performed

pub returns-clause-clean_audit : goal.returns-clause-clean_audit
returns-clause-clean_audit c = clean_audit_performed

pub returns-clause-check : goal.returns-clause-check
returns-clause-check c = check_performed

pub returns-clause-cycle : goal.returns-clause-cycle
returns-clause-cycle c = cycle_performed

pub returns-clause-run : goal.returns-clause-run
returns-clause-run c = run_performed

pub returns-clause-show : goal.returns-clause-show
returns-clause-show c = show_performed
