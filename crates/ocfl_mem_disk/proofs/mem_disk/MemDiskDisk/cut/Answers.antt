use Rattle.std.proofs.Common.{inl}
use Rattle.ocfl_mem_disk.proofs.Calling.{cuts_either, cut_ok}
use Rattle.ocfl_mem_disk.proofs.mem_disk.MemDiskDisk.cut.Goals as goal

pub returns-clause-writes : goal.returns-clause-writes
returns-clause-writes c = λ told. cuts_either c.args.report.now.number c.args.most c.args.self.now.log.items c.make.new.self.log.items c.args.self.now.faults c.make.new.self.faults c.make.result (inl (c.requires.report told)) c.make.ensures.ok c.make.ensures.err c.make.ensures.later

pub returns-clause-cut : goal.returns-clause-cut
returns-clause-cut c = λ told. cut_ok c.args.report.now.number c.args.most c.args.self.now.log.items c.make.new.self.log.items c.args.self.now.faults c.make.new.self.faults c.make.result (inl (c.requires.report told)) c.make.ensures.ok c.make.ensures.later
