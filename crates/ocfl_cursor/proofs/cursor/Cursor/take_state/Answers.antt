use Rattle.ocfl_cursor.proofs.Rules.{IsCursor-had, IsCursor-started}
use Rattle.ocfl_cursor.proofs.cursor.Cursor.take_state.Goals as goal

pub invariant_of-self : goal.invariant_of-self
invariant_of-self c = ∣ rw (c.replace.ensures.after) (IsCursor-started _ (IsCursor-had _ c.self.invariant)) ∣₁

pub returns-clause-keeps : goal.returns-clause-keeps
returns-clause-keeps c = rw (← c.self.view_is) (IsCursor-had _ c.self.invariant)
