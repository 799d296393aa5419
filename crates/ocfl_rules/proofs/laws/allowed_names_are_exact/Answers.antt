use Rattle.ocfl_rules.proofs.MetaLaws.{object_files, object_directories, version_files}
use Rattle.ocfl_rules.proofs.laws.allowed_names_are_exact.Goals as goal

pub returns : goal.returns
returns c = assumption (object_files, object_directories, version_files)
