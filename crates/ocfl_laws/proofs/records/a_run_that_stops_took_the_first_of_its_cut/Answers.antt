use Rattle.ocfl_laws.proofs.RecordLaws.{stopped_run_wrote, stopped_run_opened, stopped_run_listed, stopped_run_read, stopped_run_ended_at}
use Rattle.ocfl_laws.proofs.records.a_run_that_stops_took_the_first_of_its_cut.Goals as goal

pub returns-clause-lines : goal.returns-clause-lines
returns-clause-lines c = stopped_run_wrote

pub returns-clause-opened : goal.returns-clause-opened
returns-clause-opened c = stopped_run_opened

pub returns-clause-listed : goal.returns-clause-listed
returns-clause-listed c = stopped_run_listed

pub returns-clause-read : goal.returns-clause-read
returns-clause-read c = stopped_run_read

pub returns-clause-last : goal.returns-clause-last
returns-clause-last c = stopped_run_ended_at
