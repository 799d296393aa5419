use Rattle.ocfl_night_laws.proofs.Readings.{not_again}
use Rattle.ocfl_night.specs.Again.{took_by}
use Rattle.ocfl_night_laws.proofs.nights.what_is_opened_again_is_one_runs.Goals as goal

pub returns-clause-in_it : goal.returns-clause-in_it
returns-clause-in_it g c = λ root part cycle taken leg is d left k at going same opened beyond p i j. not_again cycle taken opened d k (is.crash.each d left) at going same beyond p i j

pub returns-clause-in_the_last : goal.returns-clause-in_the_last
returns-clause-in_the_last g c = λ root part cycle old new s t folder night d left k at going same opened beyond p i j. not_again cycle (took_by night.legs) opened d k (night.crash.each d left) at going same beyond p i j
