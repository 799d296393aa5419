use Rattle.std.proofs.Common.{ap, Bor, List, Option}
use Rattle.ocfl_joining.specs.declared.facts.Facts.{Facts}
use Rattle.ocfl_part_folders.proofs.Asked.{files_on, files_opened}
use Rattle.ocfl_part_folders.proofs.folder_disk.FolderDiskJoinDisk.open_part.Goals as goal

pub returns-clause-opened : goal.returns-clause-opened
returns-clause-opened g c = λ told.
    let folder = g.C.PartCalls.folder in
    files_opened c.answer.result c.open_part-found.result c.args.self.now.facts.now c.answer.new.self.facts.now c.args.number (folder c.args.self.now.calls) (folder c.open_part-found.new.calls) (folder c.answer.new.self.calls)
    c.answer.ensures.ok (ap (λ (f : Bor (List (Option Facts))). f.now) c.answer.ensures.facts) (ap folder c.answer.ensures.calls) (c.open_part-found.ensures.opened told)

pub returns-clause-folders : goal.returns-clause-folders
returns-clause-folders g c = λ told.
    let folder = g.C.PartCalls.folder in
    files_on c.args.self.now.facts.now c.answer.new.self.facts.now (folder c.args.self.now.calls) (folder c.open_part-found.new.calls) (folder c.answer.new.self.calls) (folder c.open_part-found.new.calls).opened
    (ap (λ (f : Bor (List (Option Facts))). f.now) c.answer.ensures.facts) (ap folder c.answer.ensures.calls) (c.open_part-found.ensures.folder told)
