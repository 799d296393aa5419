use Rattle.ocfl_part_folders.proofs.Asked.{files_noted}
use Rattle.ocfl_part_folders.proofs.folder_disk.FolderDiskJoinDisk.note.Goals as goal

pub returns-clause-said : goal.returns-clause-said
returns-clause-said g c = λ told. files_noted c.args.self.now.facts.now c.args.text.now (g.C.PartCalls.folder c.args.self.now.calls) (g.C.PartCalls.folder c.say.new.self) (c.in_ok-say.ensures.said told)
