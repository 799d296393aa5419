use Rattle.std.proofs.Common.{rules}
use Rattle.ocfl_joining.proofs.Memories.{map_more, one_passes}
use Rattle.ocfl_joining.proofs.memory.MemoryReportsPartReports.put.Goals as goal

pub returns-clause-crash : goal.returns-clause-crash
returns-clause-crash c = λ t.
    one_passes (record { whole = c.args.whole; bytes = c.args.self.now.made.items }) c.args.self.now _
    (map_more c.args.self.now.put.items c.push.new.self.items (record { whole = c.args.whole; bytes = c.in_ok-bytes.bytes }) c.args.self.now.made.items (search rules) (search rules))
