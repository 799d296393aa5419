use Rattle.ocfl_laws.proofs.CallsJoined.{calls_few}
use Rattle.ocfl_laws.proofs.handing.calls_on_a_part_join.Goals as goal

pub returns-clause-few : goal.returns-clause-few
returns-clause-few c = calls_few
