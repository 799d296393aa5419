use Rattle.std.proofs.Common.{◌≡◌, take, filter}
use Rattle.ocfl_compare.specs.Changes.{is_left}
use Rattle.ocfl_accounts.proofs.held.changes_within.Given as goal

abbrev pub invariant-loop-at : goal.invariant-loop-at
invariant-loop-at l = l.within.items ≡ filter (λ c. is_left l.places c.place) (take l.at-index l.changes)
