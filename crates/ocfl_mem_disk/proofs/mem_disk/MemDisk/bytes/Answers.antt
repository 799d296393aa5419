use Rattle.std.proofs.Common.{ap}
use Rattle.std.specs.Prelude.{Vec}
use Rattle.std.specs.declared.alloc.Global.{Global}
use Rattle.ocfl_mem_disk.specs.declared.mem_call.MemCall.{MemCall}
use Rattle.ocfl_mem_disk.proofs.Calling.{bytes_read}
use Rattle.ocfl_mem_disk.proofs.mem_disk.MemDisk.bytes.Goals as goal

pub returns-in-Ok-clause-value : goal.returns-in-Ok-clause-value
returns-in-Ok-clause-value c = bytes_read c.args.self.now.log.items c.begin.new.self.log.items c.in_ok-shown.shown c.args.self.now.faults c.args.file c.in-Ok.bytes.items c.in-Ok.ensures c.in_ok-shown.ensures.value (ap (λ (v : Vec MemCall Global). v.items) c.begin.ensures.log)
