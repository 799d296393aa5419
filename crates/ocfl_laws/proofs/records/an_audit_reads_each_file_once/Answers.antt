use Rattle.ocfl_laws.proofs.RecordLaws.{audit_wrote, audit_opened, audit_listed, audit_ended_at}
use Rattle.ocfl_laws.proofs.records.an_audit_reads_each_file_once.Goals as goal

pub returns-clause-lines : goal.returns-clause-lines
returns-clause-lines c = audit_wrote

pub returns-clause-opened : goal.returns-clause-opened
returns-clause-opened c = audit_opened

pub returns-clause-listed : goal.returns-clause-listed
returns-clause-listed c = audit_listed

pub returns-clause-last : goal.returns-clause-last
returns-clause-last c = audit_ended_at
