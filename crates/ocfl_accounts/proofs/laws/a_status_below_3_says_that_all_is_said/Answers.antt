use Rattle.ocfl_accounts.proofs.Chains.{each_done}
use Rattle.ocfl_accounts.proofs.laws.a_status_below_3_says_that_all_is_said.Goals as goal

pub returns : goal.returns
returns g c = λ with. each_done (g.C.Closings.says with)
