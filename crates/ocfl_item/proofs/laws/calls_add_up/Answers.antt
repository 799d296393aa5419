use Rattle.ocfl_item.proofs.AuditingLaws.{audits_fail, audits_on}
use Rattle.ocfl_item.proofs.laws.calls_add_up.Goals as goal

pub returns-clause-on : goal.returns-clause-on
returns-clause-on c = audits_on

pub returns-clause-fail : goal.returns-clause-fail
returns-clause-fail c = audits_fail
