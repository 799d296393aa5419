use Rattle.ocfl_night_laws.proofs.Halts.{failed_once, failed_twice}
use Rattle.ocfl_night_laws.proofs.stops.a_night_stops_where_the_store_failed.Goals as goal

pub returns-clause-once : goal.returns-clause-once
returns-clause-once c = λ further plan tells k d old new end p n s t failed h. failed_once p n failed h

pub returns-clause-twice : goal.returns-clause-twice
returns-clause-twice c = λ further plan tells k d old new end p n s t failed h is lax few. failed_twice p n failed h is lax few
