use Rattle.ocfl_night_laws.proofs.Clocks.{begins_in_time}
use Rattle.ocfl_night_laws.proofs.nights.runs_begin_before_the_end.Goals as goal

pub returns : goal.returns
returns c = begins_in_time
