use Rattle.ocfl_closed.proofs.Lost.{AreTaken}
use Rattle.ocfl_closed.proofs.rows.take_rows.Given as goal

abbrev pub invariant-loop : goal.invariant-loop
invariant-loop g l = AreTaken (g.R.Read.remaining l.fn.list) (g.R.Read.remaining l.list) l.fn.places.items l.places.items
