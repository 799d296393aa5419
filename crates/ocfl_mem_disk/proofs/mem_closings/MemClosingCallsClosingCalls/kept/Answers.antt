use Rattle.std.proofs.Common.{◌∙◌}
use Rattle.ocfl_mem_disk.proofs.Closing.{kept_so}
use Rattle.ocfl_mem_disk.proofs.mem_closings.MemClosingCallsClosingCalls.kept.Goals as goal

pub returns-clause-value : goal.returns-clause-value
returns-clause-value c = λ told. c.in_ok-copied.ensures ∙ c.kept_of.ensures ∙ kept_so c.args.self.now.closed c.args.self.now.calls.items c.args.cycle
