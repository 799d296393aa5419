use Rattle.ocfl_tasks.proofs.Begun.{said_as}
use Rattle.ocfl_tasks.proofs.showing.say_unshown.Goals as goal

pub returns-in-Read-clause-said : goal.returns-in-Read-clause-said
returns-in-Read-clause-said g c told = said_as _ _ _ _ c.in-Read.is (c.say_words.ensures.said told)

pub returns-in-Cursor-clause-said : goal.returns-in-Cursor-clause-said
returns-in-Cursor-clause-said g c told = said_as _ _ _ _ c.in-Cursor.is (c.say_words-in-Cursor.ensures.said told)
