use Rattle.std.proofs.Common.{◌≡◌, ◌++◌, length, subst}
use Rattle.std.specs.Prelude.{OnOk}
use Rattle.ocfl_state.specs.Content.{Bytes}
use Rattle.ocfl_disk.specs.Disk.{Writes}
use Rattle.ocfl_mem_disk.specs.Log.{disk_of}
use Rattle.ocfl_mem_disk.proofs.Calling.{appends_either, appended_ok}
use Rattle.ocfl_mem_disk.proofs.mem_disk.MemDiskDisk.append.Goals as goal

pub returns-in-Ok-clause-writes : goal.returns-in-Ok-clause-writes
returns-in-Ok-clause-writes c = λ told. subst (λ (b : Bytes). Writes c.args.file.now.number (length ((disk_of c.args.self.now.log.items c.args.self.now.faults).seen.bytes c.args.file.now.number)) (length ((disk_of c.args.self.now.log.items c.args.self.now.faults).seen.bytes c.args.file.now.number ++ b)) (disk_of c.args.self.now.log.items c.args.self.now.faults) (disk_of c.make.new.self.log.items c.make.new.self.faults))
    (c.in-Ok.ensures.items_if_clones_equal (λ x y is. is))
    (appends_either c.args.file.now.number c.in-Ok.copy c.args.self.now.log.items c.make.new.self.log.items c.args.self.now.faults c.make.new.self.faults c.make.result (c.requires told) c.make.ensures.ok c.make.ensures.err c.make.ensures.later)

pub returns-in-Ok-clause-appended : goal.returns-in-Ok-clause-appended
returns-in-Ok-clause-appended c = λ told. subst (λ (b : Bytes). OnOk c.make.result ((disk_of c.make.new.self.log.items c.make.new.self.faults).seen.bytes c.args.file.now.number ≡ (disk_of c.args.self.now.log.items c.args.self.now.faults).seen.bytes c.args.file.now.number ++ b))
    (c.in-Ok.ensures.items_if_clones_equal (λ x y is. is))
    (appended_ok c.args.file.now.number c.in-Ok.copy c.args.self.now.log.items c.make.new.self.log.items c.args.self.now.faults c.make.new.self.faults c.make.result (c.requires told) c.make.ensures.ok c.make.ensures.later)
