use Rattle.ocfl_laws.proofs.RecordLaws.{stopped_cycle_wrote, stopped_cycle_counted, stopped_cycle_opened, stopped_cycle_ended_at}
use Rattle.ocfl_laws.proofs.records.a_cycle_that_stops_took_the_first_of_its_cuts.Goals as goal

pub returns-clause-lines : goal.returns-clause-lines
returns-clause-lines c = stopped_cycle_wrote

pub returns-clause-counted : goal.returns-clause-counted
returns-clause-counted c = stopped_cycle_counted

pub returns-clause-opened : goal.returns-clause-opened
returns-clause-opened c = stopped_cycle_opened

pub returns-clause-last : goal.returns-clause-last
returns-clause-last c = stopped_cycle_ended_at
