use Rattle.ocfl_laws.proofs.ScopeEnds.{own_cursor, cursor_of_a_part, cursor_of_the_whole}
use Rattle.ocfl_laws.proofs.scopes.a_part_takes_its_own_cursor_alone.Goals as goal

pub returns-clause-own : goal.returns-clause-own
returns-clause-own c = own_cursor

pub returns-clause-of_a_part : goal.returns-clause-of_a_part
returns-clause-of_a_part c = cursor_of_a_part

pub returns-clause-whole : goal.returns-clause-whole
returns-clause-whole c = cursor_of_the_whole
