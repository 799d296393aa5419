use Rattle.ocfl_laws.proofs.CallsMade.{call_has_run}
use Rattle.ocfl_laws.proofs.handing.a_call_is_told.Goals as goal

pub returns-clause-handed_back : goal.returns-clause-handed_back
returns-clause-handed_back c further root s t limits e stored said old new performs handed = call_has_run further root s t e stored limits old said new handed performs
