use Rattle.ocfl_item.proofs.NearLaws.{opened_near}
use Rattle.ocfl_item.proofs.laws.metadata_lies_in_listed_directories.Goals as goal

pub returns-clause-versions : goal.returns-clause-versions
returns-clause-versions c = opened_near
