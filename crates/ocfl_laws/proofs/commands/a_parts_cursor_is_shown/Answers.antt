use Rattle.ocfl_laws.proofs.FileLaws.{no_whole_refused, no_part_refused}
use Rattle.ocfl_laws.proofs.commands.a_parts_cursor_is_shown.Goals as goal

pub returns-clause-whole : goal.returns-clause-whole
returns-clause-whole c = no_whole_refused

pub returns-clause-part : goal.returns-clause-part
returns-clause-part c = no_part_refused
