use Rattle.ocfl_laws.proofs.ScopeEnds.{no_item, some_item}
use Rattle.ocfl_laws.proofs.scopes.an_empty_branch_has_no_item.Goals as goal

pub returns-clause-empty : goal.returns-clause-empty
returns-clause-empty c = no_item

pub returns-clause-some : goal.returns-clause-some
returns-clause-some c = some_item
