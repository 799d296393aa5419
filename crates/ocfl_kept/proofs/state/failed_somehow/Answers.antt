use Rattle.std.proofs.Common.{◌++◌, codes}
use Rattle.ocfl_report.specs.Text.{escape}
use Rattle.ocfl_files.specs.Failing.{stopped_status}
use Rattle.ocfl_files.proofs.Failures.{says_so}
use Rattle.ocfl_kept.proofs.state.failed_somehow.Goals as goal

pub returns : goal.returns
returns c = says_so c.stopped.result stopped_status c.in_ok-text.text (escape c.args.state.now ++ codes " failed\n") c.stopped.ensures c.in_ok-text.ensures.ok
