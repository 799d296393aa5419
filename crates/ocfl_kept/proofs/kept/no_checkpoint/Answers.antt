use Rattle.ocfl_files.proofs.Failures.{saying_so}
use Rattle.ocfl_kept.specs.Refusing.{no_checkpoint_text}
use Rattle.ocfl_kept.proofs.kept.no_checkpoint.Goals as goal

pub returns : goal.returns
returns c = saying_so c.format.result c.saying.result (no_checkpoint_text c.args.state.now) c.saying.ensures c.format.ensures.ok
