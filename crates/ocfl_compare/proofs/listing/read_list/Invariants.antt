use Rattle.ocfl_compare.proofs.Lists.{KnownListed}
use Rattle.ocfl_compare.proofs.listing.read_list.Given as goal

abbrev pub invariant-loop-number : goal.invariant-loop-number
invariant-loop-number g l = KnownListed (g.R.Read.remaining l.fn.list) (g.R.Read.remaining l.list) l.places.items l.number
