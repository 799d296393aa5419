use Rattle.ocfl_laws.proofs.FileLaws.{shown_whole, shown_in_part, shown_of_part, shown_in_part_of_part}
use Rattle.ocfl_laws.proofs.commands.a_cursor_is_shown_as_its_lines.Goals as goal

pub returns-clause-whole : goal.returns-clause-whole
returns-clause-whole c = shown_whole c.text_determines_what_is_shown.ensures.lines

pub returns-clause-part : goal.returns-clause-part
returns-clause-part c = shown_in_part c.text_determines_what_is_shown.ensures.lines

pub returns-clause-whole_of_part : goal.returns-clause-whole_of_part
returns-clause-whole_of_part c = shown_of_part c.text_determines_what_is_shown.ensures.lines

pub returns-clause-part_of_part : goal.returns-clause-part_of_part
returns-clause-part_of_part c = shown_in_part_of_part c.text_determines_what_is_shown.ensures.lines
