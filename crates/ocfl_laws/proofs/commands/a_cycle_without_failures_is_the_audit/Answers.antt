use Rattle.ocfl_laws.proofs.HeadlineLaws.{each_file}
use Rattle.ocfl_laws.proofs.commands.a_cycle_without_failures_is_the_audit.Goals as goal

pub returns-clause-opened : goal.returns-clause-opened
returns-clause-opened c = each_file
