use Rattle.ocfl_files.specs.Failing.{stopped_status}
use Rattle.ocfl_files.proofs.Failures.{says_so}
use Rattle.ocfl_kept.proofs.state.refused.Goals as goal

pub returns : goal.returns
returns c = says_so c.stopped.result stopped_status c.in_ok-text.text _ c.stopped.ensures c.in_ok-text.ensures
