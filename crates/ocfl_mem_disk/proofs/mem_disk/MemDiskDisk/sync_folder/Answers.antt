use Rattle.std.proofs.Common.{subst, sym, refl}
use Rattle.std.specs.Prelude.{OnOk, IsTrue}
use Rattle.ocfl_disk.specs.declared.state_file.StateFile.{StateFile}
use Rattle.ocfl_mem_disk.specs.Log.{disk_of}
use Rattle.ocfl_mem_disk.proofs.Calling.{folder_either, reports_either}
use Rattle.ocfl_mem_disk.proofs.mem_disk.MemDiskDisk.sync_folder.Goals as goal

pub returns-in-Folder-clause-calm : goal.returns-in-Folder-clause-calm
returns-in-Folder-clause-calm c = λ told. (folder_either c.args.self.now.log.items c.make.new.self.log.items c.args.self.now.faults c.make.new.self.faults c.make.result c.make.ensures.ok c.make.ensures.err c.make.ensures.later).calm

pub returns-in-Folder-clause-others : goal.returns-in-Folder-clause-others
returns-in-Folder-clause-others c = λ told. (folder_either c.args.self.now.log.items c.make.new.self.log.items c.args.self.now.faults c.make.new.self.faults c.make.result c.make.ensures.ok c.make.ensures.err c.make.ensures.later).others

pub returns-in-Folder-clause-names : goal.returns-in-Folder-clause-names
returns-in-Folder-clause-names c = λ told. subst (λ (folder : StateFile). OnOk c.make.result (IsTrue ((disk_of c.make.new.self.log.items c.make.new.self.faults).has_names folder))) (sym c.in-Folder.is) (folder_either c.args.self.now.log.items c.make.new.self.log.items c.args.self.now.faults c.make.new.self.faults c.make.result c.make.ensures.ok c.make.ensures.err c.make.ensures.later).names

pub returns-in-Folder-clause-checkpoint : goal.returns-in-Folder-clause-checkpoint
returns-in-Folder-clause-checkpoint c = λ told same. (folder_either c.args.self.now.log.items c.make.new.self.log.items c.args.self.now.faults c.make.new.self.faults c.make.result c.make.ensures.ok c.make.ensures.err c.make.ensures.later).checkpoint refl

pub returns-in-Reports-clause-calm : goal.returns-in-Reports-clause-calm
returns-in-Reports-clause-calm c = λ told. (reports_either c.args.self.now.log.items c.make-in-Reports.new.self.log.items c.args.self.now.faults c.make-in-Reports.new.self.faults c.make-in-Reports.result c.make-in-Reports.ensures.ok c.make-in-Reports.ensures.err c.make-in-Reports.ensures.later).calm

pub returns-in-Reports-clause-others : goal.returns-in-Reports-clause-others
returns-in-Reports-clause-others c = λ told. (reports_either c.args.self.now.log.items c.make-in-Reports.new.self.log.items c.args.self.now.faults c.make-in-Reports.new.self.faults c.make-in-Reports.result c.make-in-Reports.ensures.ok c.make-in-Reports.ensures.err c.make-in-Reports.ensures.later).others

pub returns-in-Reports-clause-names : goal.returns-in-Reports-clause-names
returns-in-Reports-clause-names c = λ told. subst (λ (folder : StateFile). OnOk c.make-in-Reports.result (IsTrue ((disk_of c.make-in-Reports.new.self.log.items c.make-in-Reports.new.self.faults).has_names folder))) (sym c.in-Reports.is) (reports_either c.args.self.now.log.items c.make-in-Reports.new.self.log.items c.args.self.now.faults c.make-in-Reports.new.self.faults c.make-in-Reports.result c.make-in-Reports.ensures.ok c.make-in-Reports.ensures.err c.make-in-Reports.ensures.later).names
