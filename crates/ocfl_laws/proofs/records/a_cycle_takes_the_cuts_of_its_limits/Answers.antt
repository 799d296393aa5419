use Rattle.ocfl_laws.proofs.RecordLaws.{cycle_wrote, cycle_opened, cycle_ended, cycle_took_few, cycle_by_sum, cycle_ended_at}
use Rattle.ocfl_laws.proofs.records.a_cycle_takes_the_cuts_of_its_limits.Goals as goal

pub returns-clause-lines : goal.returns-clause-lines
returns-clause-lines c = cycle_wrote

pub returns-clause-opened : goal.returns-clause-opened
returns-clause-opened c = cycle_opened

pub returns-clause-ended : goal.returns-clause-ended
returns-clause-ended c = cycle_ended

pub returns-clause-few : goal.returns-clause-few
returns-clause-few c = cycle_took_few

pub returns-clause-by_sum : goal.returns-clause-by_sum
returns-clause-by_sum c = cycle_by_sum

pub returns-clause-last : goal.returns-clause-last
returns-clause-last c = cycle_ended_at
