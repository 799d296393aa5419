use Rattle.ocfl_laws.proofs.ChainLooks.{cycle_lists, cycle_reads, failed_last, root_listed}
use Rattle.ocfl_laws.proofs.parts.each_run_of_a_cycle_looks_once.Goals as goal

pub returns-clause-listed : goal.returns-clause-listed
returns-clause-listed c = cycle_lists

pub returns-clause-read : goal.returns-clause-read
returns-clause-read c = cycle_reads

pub returns-clause-root : goal.returns-clause-root
returns-clause-root c = root_listed

pub returns-clause-failed : goal.returns-clause-failed
returns-clause-failed c = failed_last
