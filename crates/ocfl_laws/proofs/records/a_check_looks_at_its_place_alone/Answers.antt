use Rattle.ocfl_laws.proofs.RecordLaws.{check_wrote, check_opened, check_listed, check_read}
use Rattle.ocfl_laws.proofs.records.a_check_looks_at_its_place_alone.Goals as goal

pub returns-clause-lines : goal.returns-clause-lines
returns-clause-lines c = check_wrote

pub returns-clause-opened : goal.returns-clause-opened
returns-clause-opened c = check_opened

pub returns-clause-listed : goal.returns-clause-listed
returns-clause-listed c = check_listed

pub returns-clause-read : goal.returns-clause-read
returns-clause-read c = check_read
