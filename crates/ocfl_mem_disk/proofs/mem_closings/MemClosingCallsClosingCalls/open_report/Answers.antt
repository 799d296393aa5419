use Rattle.std.proofs.Common.{◌∙◌}
use Rattle.ocfl_mem_disk.proofs.Closing.{named_so}
use Rattle.ocfl_mem_disk.proofs.mem_closings.MemClosingCallsClosingCalls.open_report.Goals as goal

pub returns-clause-value : goal.returns-clause-value
returns-clause-value c = λ told. c.in_ok-opened.ensures ∙ c.in_ok-bytes.ensures ∙ named_so c.args.self.now.closed c.args.self.now.calls.items c.args.whole c.args.cycle
