use Rattle.ocfl_night_laws.proofs.Readings.{read_once}
use Rattle.ocfl_night_laws.proofs.nights.nothing_is_read_twice.Goals as goal

pub returns : goal.returns
returns c = read_once
