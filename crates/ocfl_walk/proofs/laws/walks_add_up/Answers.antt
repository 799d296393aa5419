use Rattle.ocfl_walk.proofs.WalkCallLaws.{walks_fail}
use Rattle.ocfl_walk.proofs.laws.walks_add_up.Goals as goal

pub returns-clause-fail : goal.returns-clause-fail
returns-clause-fail c = λ further root s t u from to b why beyond within v w. walks_fail further root s t u from b beyond to why within v w
