use Rattle.ocfl_mem_disk.proofs.Calling.{closes_either}
use Rattle.ocfl_mem_disk.proofs.mem_disk.MemDisk.close.Goals as goal

pub returns-clause-closes : goal.returns-clause-closes
returns-clause-closes c = λ ready. closes_either c.args.cycle c.args.whole c.args.self.now.log.items c.make.new.self.log.items c.args.self.now.faults c.make.new.self.faults c.make.result ready c.make.ensures.ok c.make.ensures.err c.make.ensures.later
