use Rattle.ocfl_mem_disk.proofs.Calling.{drops_either}
use Rattle.ocfl_mem_disk.proofs.mem_disk.MemDiskDisk.rename_kept.Goals as goal

pub returns-clause-drops : goal.returns-clause-drops
returns-clause-drops c = λ told. drops_either c.args.self.now.log.items c.make.new.self.log.items c.args.self.now.faults c.make.new.self.faults c.make.result c.make.ensures.ok c.make.ensures.err c.make.ensures.later
