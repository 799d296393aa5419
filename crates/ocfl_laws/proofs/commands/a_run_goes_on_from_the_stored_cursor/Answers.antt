use Rattle.ocfl_laws.proofs.FileLaws.{led_from_the_stored, led_from_the_first, of_the_audit}
use Rattle.ocfl_laws.proofs.commands.a_run_goes_on_from_the_stored_cursor.Goals as goal

pub returns-clause-stored : goal.returns-clause-stored
returns-clause-stored c = led_from_the_stored c.text_determines_the_cursor.ensures

pub returns-clause-first : goal.returns-clause-first
returns-clause-first c = led_from_the_first

pub returns-clause-audit : goal.returns-clause-audit
returns-clause-audit c = of_the_audit c.text_determines_the_cursor.ensures
