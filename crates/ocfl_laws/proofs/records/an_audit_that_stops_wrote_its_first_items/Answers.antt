use Rattle.ocfl_laws.proofs.RecordLaws.{stopped_audit_wrote, stopped_audit_opened, stopped_audit_listed, stopped_audit_read}
use Rattle.ocfl_laws.proofs.records.an_audit_that_stops_wrote_its_first_items.Goals as goal

pub returns-clause-lines : goal.returns-clause-lines
returns-clause-lines c = stopped_audit_wrote

pub returns-clause-opened : goal.returns-clause-opened
returns-clause-opened c = stopped_audit_opened

pub returns-clause-listed : goal.returns-clause-listed
returns-clause-listed c = stopped_audit_listed

pub returns-clause-read : goal.returns-clause-read
returns-clause-read c = stopped_audit_read
