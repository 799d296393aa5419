use Rattle.ocfl_terminal.proofs.Foreign.{shown_foreign}
use Rattle.ocfl_terminal.proofs.naming.foreign_in.Goals as goal

pub returns-in-Some : goal.returns-in-Some
returns-in-Some g c = shown_foreign _ _ _ _ _ c.in-Some.is c.foreign_among.ensures c.shown_name.ensures c.ok-in-Some.ensures.value
