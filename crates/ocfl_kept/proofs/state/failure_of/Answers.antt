use Rattle.std.proofs.Common.{refl, string_bytes}
use Rattle.ocfl_files.specs.Failing.{stopped_status}
use Rattle.ocfl_files.proofs.Failures.{says_so}
use Rattle.ocfl_kept.proofs.state.failure_of.Goals as goal

pub returns : goal.returns
returns c = (string_bytes c.in_ok-text.text, c.in_ok-text.ensures, says_so c.stopped.result stopped_status c.in_ok-text.text (string_bytes c.in_ok-text.text) c.stopped.ensures refl)
