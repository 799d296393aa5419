use Rattle.ocfl_rules.proofs.ObjectLaws.{none_without_file, none_of_unknown, one_declaration, none_of_several, none_in_extensions, none_inside, none_in_unknown_root}
use Rattle.ocfl_rules.proofs.laws.other_inventories_are_not_read.Goals as goal

pub returns : goal.returns
returns c = assumption (none_without_file, none_of_unknown, one_declaration, none_of_several, none_in_extensions, none_inside, none_in_unknown_root)
