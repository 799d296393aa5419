use Rattle.ocfl_closed.proofs.Losing.{is_disk}
use Rattle.ocfl_closed.proofs.laws.the_disk_that_loses_most_keeps_the_laws.Goals as goal

pub returns-clause-laws : goal.returns-clause-laws
returns-clause-laws c = is_disk
