use Rattle.ocfl_cursor.proofs.ShownTexts.{shown_determined, only_memory_hides}
use Rattle.ocfl_cursor.proofs.laws.text_determines_what_is_shown.Goals as goal

pub returns-clause-lines : goal.returns-clause-lines
returns-clause-lines c = λ b l m h k. shown_determined b l m h k

pub returns-clause-not_refused : goal.returns-clause-not_refused
returns-clause-not_refused c = λ b l h why k. only_memory_hides b l h why k
