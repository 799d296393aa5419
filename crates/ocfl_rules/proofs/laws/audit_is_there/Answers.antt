use Rattle.ocfl_rules.proofs.AuditLaws.{audit_is}
use Rattle.ocfl_rules.proofs.laws.audit_is_there.Goals as goal

pub returns : goal.returns
returns c further root unread = audit_is further root unread
