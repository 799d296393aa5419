use Rattle.ocfl_mem_disk.proofs.Calling.{syncs_either, synced_ok}
use Rattle.ocfl_mem_disk.proofs.mem_disk.MemDiskDisk.sync.Goals as goal

pub returns-clause-calm : goal.returns-clause-calm
returns-clause-calm c = λ told. syncs_either c.args.file.now.number c.args.self.now.log.items c.make.new.self.log.items c.args.self.now.faults c.make.new.self.faults c.make.result c.make.ensures.ok c.make.ensures.err c.make.ensures.later

pub returns-clause-synced : goal.returns-clause-synced
returns-clause-synced c = λ told. synced_ok c.args.file.now.number c.args.self.now.log.items c.make.new.self.log.items c.args.self.now.faults c.make.new.self.faults c.make.result c.make.ensures.ok c.make.ensures.later
