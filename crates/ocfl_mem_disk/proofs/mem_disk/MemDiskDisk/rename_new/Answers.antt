use Rattle.ocfl_mem_disk.proofs.Calling.{puts_either}
use Rattle.ocfl_mem_disk.proofs.mem_disk.MemDiskDisk.rename_new.Goals as goal

pub returns-clause-puts : goal.returns-clause-puts
returns-clause-puts c = λ told. puts_either c.args.self.now.log.items c.make.new.self.log.items c.args.self.now.faults c.make.new.self.faults c.make.result (c.requires told) c.make.ensures.ok c.make.ensures.err c.make.ensures.later
