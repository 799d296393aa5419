use Rattle.ocfl_mem_disk.proofs.Closing.{closed_so}
use Rattle.ocfl_mem_disk.proofs.mem_closings.MemClosingCallsClosingCalls.is_as_closed.Goals as goal

pub returns-clause-value : goal.returns-clause-value
returns-clause-value c = λ told. closed_so c.args.self.now.closed c.args.self.now.calls.items c.args.cycle c.in_ok-is_as_closed.field-0 c.in_ok-is_as_closed.ensures
