use Rattle.ocfl_laws.proofs.RecordLaws.{stopped_check_wrote, stopped_check_opened, stopped_check_listed, stopped_check_read}
use Rattle.ocfl_laws.proofs.records.a_check_that_stops_wrote_a_beginning.Goals as goal

pub returns-clause-lines : goal.returns-clause-lines
returns-clause-lines c = stopped_check_wrote

pub returns-clause-opened : goal.returns-clause-opened
returns-clause-opened c = stopped_check_opened

pub returns-clause-listed : goal.returns-clause-listed
returns-clause-listed c = stopped_check_listed

pub returns-clause-read : goal.returns-clause-read
returns-clause-read c = stopped_check_read
