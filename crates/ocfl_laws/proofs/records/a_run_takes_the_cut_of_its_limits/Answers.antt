use Rattle.ocfl_laws.proofs.RecordLaws.{run_wrote, run_opened, run_listed, run_read, run_went_to, run_ended_at}
use Rattle.ocfl_laws.proofs.records.a_run_takes_the_cut_of_its_limits.Goals as goal

pub returns-clause-lines : goal.returns-clause-lines
returns-clause-lines c = run_wrote

pub returns-clause-opened : goal.returns-clause-opened
returns-clause-opened c = run_opened

pub returns-clause-listed : goal.returns-clause-listed
returns-clause-listed c = run_listed

pub returns-clause-read : goal.returns-clause-read
returns-clause-read c = run_read

pub returns-clause-next : goal.returns-clause-next
returns-clause-next c = run_went_to

pub returns-clause-last : goal.returns-clause-last
returns-clause-last c = run_ended_at
