use Rattle.std.proofs.Common.{◌≡◌, length}
use Rattle.ocfl_compare.specs.Listed.{trimmed}
use Rattle.ocfl_compare.proofs.listing.trim.Given as goal

abbrev pub invariant-loop-shorter : goal.invariant-loop-shorter
invariant-loop-shorter l = trimmed l.rest ≡ trimmed l.line

abbrev pub decreases-loop-shorter : goal.decreases-loop-shorter
decreases-loop-shorter l = length l.rest
