use Rattle.ocfl_item.proofs.VisitLaws.{object_dir_known, object_dir_other, object_file_known, object_file_other, object_other, object_version}
use Rattle.ocfl_item.proofs.role.role_in_object.Goals as goal

pub returns-in-File : goal.returns-in-File
returns-in-File c = λ further root e here o t z table. object_file_known further root e o c.args.entry.now.name t _ here z table c.in-File.is (cc)

pub returns-in-File-2 : goal.returns-in-File-2
returns-in-File-2 c = λ further root e here o t z table. object_file_other further root e o c.args.entry.now.name t _ here z table c.in-File-2.is (cc)

pub returns-in-Other : goal.returns-in-Other
returns-in-Other c = λ further root e here o t z table. object_other further root e o c.args.entry.now.name t _ here z table c.in-Other.is

pub returns-in-Dir : goal.returns-in-Dir
returns-in-Dir c = λ further root e here o t z table. object_version further root e o c.args.entry.now.name t _ here z table c.in-Dir.is (cc)

pub returns-in-Dir-2 : goal.returns-in-Dir-2
returns-in-Dir-2 c = λ further root e here o t z table. object_dir_known further root e o c.args.entry.now.name t _ here z table c.in-Dir-2.is (cc) (cc)

pub returns-in-Dir-3 : goal.returns-in-Dir-3
returns-in-Dir-3 c = λ further root e here o t z table. object_dir_other further root e o c.args.entry.now.name t _ here z table c.in-Dir-3.is (cc) (cc)
