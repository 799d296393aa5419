use Rattle.ocfl_accounts.proofs.Chains.{done_or_found}
use Rattle.ocfl_accounts.proofs.laws.each_cycle_is_said_or_found_again.Goals as goal

pub returns : goal.returns
returns g c = λ with. done_or_found (g.C.Closings.says with)
