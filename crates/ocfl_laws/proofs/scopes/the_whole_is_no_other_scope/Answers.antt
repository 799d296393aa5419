use Rattle.ocfl_laws.proofs.ScopeEnds.{whole_said, whole_refused, whole_handed_back, whole_told}
use Rattle.ocfl_laws.proofs.scopes.the_whole_is_no_other_scope.Goals as goal

pub returns-clause-said : goal.returns-clause-said
returns-clause-said c = whole_said

pub returns-clause-refused : goal.returns-clause-refused
returns-clause-refused c = whole_refused

pub returns-clause-handed_back : goal.returns-clause-handed_back
returns-clause-handed_back c = whole_handed_back

pub returns-clause-told : goal.returns-clause-told
returns-clause-told c = whole_told
