use Rattle.std.proofs.Common.{◌∙◌, ap, sym}
use Rattle.ocfl_disk.specs.declared.state_file.StateFile.TheVariants.{Report}
use Rattle.ocfl_part_folders.specs.Folder.{PartsFolder, new_path}
use Rattle.ocfl_part_folders.proofs.Passing.{made_after}
use Rattle.ocfl_part_folders.proofs.asking.make.Goals as goal

pub returns-clause-made : goal.returns-clause-made
returns-clause-made g c = λ told.
    let C = g.C.PartCalls in
    let at = c.as_str-2.ensures.value ∙ c.in_ok-path.ensures told ∙ ap (λ (f : PartsFolder). new_path f.path c.args.cycle) (sym (c.make_folder.ensures.folder told)) in
    made_after c.make.result C.number Report (C.disk c.args.calls.now) (C.disk c.make_folder.new.self) (C.disk c.make.new.self) (g.met.C.PartCalls.is_disk told c.args.calls.now) (c.make_folder.ensures.calm told) (c.make.ensures.made told c.args.cycle at)
