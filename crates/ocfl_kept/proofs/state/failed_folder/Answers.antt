use Rattle.ocfl_files.proofs.Failures.{made_so, stopped}
use Rattle.ocfl_kept.specs.Refusing.{SaysFailure}
use Rattle.ocfl_kept.proofs.Refusals.{failure_stops}
use Rattle.ocfl_kept.proofs.state.failed_folder.Goals as goal

pub returns : goal.returns
returns g c = stopped (SaysFailure c.args.state.now c.last_reason.result) c.made.result (failure_stops c.args.state.now c.last_reason.result) (made_so (SaysFailure c.args.state.now c.last_reason.result) c.folder_failure.result c.made.result c.made.ensures c.folder_failure.ensures)
