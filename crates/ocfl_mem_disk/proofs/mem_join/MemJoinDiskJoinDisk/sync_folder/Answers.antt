use Rattle.ocfl_disk.specs.declared.state_file.StateFile.TheVariants.{Reports}
use Rattle.ocfl_mem_disk.specs.{Log.{disk_of}, Showing.{is_disk_at}}
use Rattle.ocfl_mem_disk.proofs.Naming.{sure_names}
use Rattle.ocfl_mem_disk.proofs.mem_join.MemJoinDiskJoinDisk.sync_folder.Goals as goal

pub returns-clause-names : goal.returns-clause-names
returns-clause-names c = λ told.
    let log = c.sync_names-2.new.disk.log.items in
    let faults = c.sync_names-2.new.disk.faults in
    sure_names (disk_of log faults) c.sync_names-2.result (is_disk_at log faults)
    (c.sync_names-2.ensures.others Reports c.in_ok-sync_names.ensures.names) c.sync_names-2.ensures.names
