use Rattle.ocfl_item.proofs.VisitLaws.{version_content, version_dir, version_file_known, version_file_other, version_other}
use Rattle.ocfl_item.proofs.role.role_in_version.Goals as goal

pub returns-in-File : goal.returns-in-File
returns-in-File c = λ further root e here out o v z table named. version_file_known further root e o v c.args.entry.now.name c.args.table.now _ here out z table c.in-File.is (cc)

pub returns-in-File-2 : goal.returns-in-File-2
returns-in-File-2 c = λ further root e here out o v z table named. version_file_other further root e o v c.args.entry.now.name c.args.table.now _ here out z table c.in-File-2.is (cc)

pub returns-in-Other : goal.returns-in-Other
returns-in-Other c = λ further root e here out o v z table named. version_other further root e o v c.args.entry.now.name c.args.table.now _ here out z table c.in-Other.is

pub returns-in-Dir : goal.returns-in-Dir
returns-in-Dir c = λ further root e here out o v z table named. version_content further root e o v c.args.entry.now.name c.args.table.now _ here out z table c.in-Dir.is named (cc)

pub returns-in-Dir-2 : goal.returns-in-Dir-2
returns-in-Dir-2 c = λ further root e here out o v z table named. version_dir further root e o v c.args.entry.now.name c.args.table.now _ here out z table c.in-Dir-2.is named (cc)
