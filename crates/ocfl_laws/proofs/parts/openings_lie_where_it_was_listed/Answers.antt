use Rattle.ocfl_laws.proofs.OpeningLaws.{audit_opens, check_opens, run_opens}
use Rattle.ocfl_laws.proofs.parts.openings_lie_where_it_was_listed.Goals as goal

pub returns-clause-audit : goal.returns-clause-audit
returns-clause-audit c = audit_opens

pub returns-clause-run : goal.returns-clause-run
returns-clause-run c = run_opens

pub returns-clause-check : goal.returns-clause-check
returns-clause-check c = check_opens
