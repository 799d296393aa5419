use Rattle.ocfl_scrub.proofs.AuditLaws.{whole_unread}
use Rattle.ocfl_scrub.proofs.auditing.audit.Goals as goal

pub returns-clause-told : goal.returns-clause-told
returns-clause-told g c told root over short = rw c.whole-whole.ensures at (c.audit_part.ensures.told told root over short)

pub returns-clause-unfailing : goal.returns-clause-unfailing
returns-clause-unfailing g c told root over short ended same = whole_unread c.args.further root _ _ _ _ c.whole-whole.ensures (c.audit_part.ensures.unfailing told root over short ended same)
