use Rattle.std.proofs.Common.{string_bytes}
use Rattle.ocfl_files.specs.Failing.{file_line, stopped_status}
use Rattle.ocfl_files.proofs.Failures.{says_so}
use Rattle.ocfl_files.proofs.making.failure_of.Goals as goal

pub returns : goal.returns
returns c = (c.as_str.result.now, says_so c.stopped.result stopped_status c.in_ok-line.line (file_line c.args.path.now c.as_str.result.now) c.stopped.ensures c.in_ok-line.ensures)
