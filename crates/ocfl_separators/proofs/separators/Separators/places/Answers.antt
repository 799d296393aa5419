use Rattle.ocfl_separators.proofs.Orders.{AreSeparators-had}
use Rattle.ocfl_separators.proofs.separators.Separators.places.Goals as goal

pub returns-clause-rule : goal.returns-clause-rule
returns-clause-rule c = rw (← c.self.view_is) (AreSeparators-had _ c.self.invariant)
