use Rattle.ocfl_night_laws.proofs.Halts.{halts_exactly, stopped_exactly}
use Rattle.ocfl_night_laws.proofs.stops.a_night_stops_where_nothing_helps.Goals as goal

pub returns-clause-run : goal.returns-clause-run
returns-clause-run c = λ strict d made p. halts_exactly strict d made p

pub returns-clause-night : goal.returns-clause-night
returns-clause-night c = λ further plan tells k d old new end p n well. stopped_exactly p n well
