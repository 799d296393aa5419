use Rattle.std.proofs.Common.{refl}
use Rattle.ocfl_disk.specs.declared.state_file.StateFile.TheVariants.{Reports}
use Rattle.ocfl_mem_disk.specs.{Log.{disk_of}, Showing.{is_disk_at}}
use Rattle.ocfl_mem_disk.proofs.Naming.{sure_names}
use Rattle.ocfl_mem_disk.proofs.mem_parts.sync_all.Goals as goal

pub returns-clause-names : goal.returns-clause-names
returns-clause-names c =
    let log = c.sync_folder-2.new.self.log.items in
    let faults = c.sync_folder-2.new.self.faults in
    sure_names (disk_of log faults) c.sync_folder-2.result (is_disk_at log faults)
    (c.sync_folder-2.ensures.others refl Reports (c.in_ok-sync_folder.ensures.names refl)) (c.sync_folder-2.ensures.names refl)
