use Rattle.ocfl_cursor.proofs.Rules.{IsCursor-had}
use Rattle.ocfl_cursor.proofs.cursor.Cursor.state.Goals as goal

pub returns-clause-keeps : goal.returns-clause-keeps
returns-clause-keeps c = rw (← c.self.view_is) (IsCursor-had _ c.self.invariant)
