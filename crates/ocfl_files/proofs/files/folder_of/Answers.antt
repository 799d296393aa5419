use Rattle.std.proofs.Common.{sym, ◌∙◌}
use Rattle.ocfl_files.proofs.Slashes.{top_folder, named_folder, no_folder}
use Rattle.ocfl_files.proofs.files.folder_of.Goals as goal

pub returns-in-Some : goal.returns-in-Some
returns-in-Some c = top_folder c.args.file.now c.rsplit_once.result (c.in-Some.folder, c.in-Some.field-0-1) c.in-Some.is c.rsplit_once.ensures.cases (sym c.is_empty.ensures ∙ c.if-is_empty.true)

pub returns-in-Some-2 : goal.returns-in-Some-2
returns-in-Some-2 c = named_folder c.args.file.now c.rsplit_once.result (c.in-Some.folder, c.in-Some.field-0-1) c.in-Some.is c.rsplit_once.ensures.cases (sym c.is_empty.ensures ∙ c.if-is_empty.false)

pub returns-in-None : goal.returns-in-None
returns-in-None c = no_folder c.args.file.now c.rsplit_once.result c.in-None.is c.rsplit_once.ensures.cases
