use Rattle.ocfl_files.proofs.Failures.{made_so}
use Rattle.ocfl_kept.specs.Refusing.{SaysStop}
use Rattle.ocfl_kept.proofs.state.opened.Goals as goal

pub returns-in-Err : goal.returns-in-Err
returns-in-Err g c = rw c.in-Err.is (made_so (SaysStop c.args.state.now c.args.root.now c.in-Err.stop) c.unopened.result c.made.result c.made.ensures c.unopened.ensures)
