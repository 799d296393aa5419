use Rattle.ocfl_files.specs.Failing.{StopsOn}
use Rattle.ocfl_files.proofs.Failures.{made_so, silent}
use Rattle.ocfl_files.proofs.making.failed_file.Goals as goal

pub returns-clause-said : goal.returns-clause-said
returns-clause-said c = made_so (StopsOn c.args.path.now) c.file_failure.result c.made.result c.made.ensures c.file_failure.ensures.said

pub returns-clause-memory : goal.returns-clause-memory
returns-clause-memory c = silent _ c.file_failure.result c.made.result c.made.ensures c.file_failure.ensures.memory
