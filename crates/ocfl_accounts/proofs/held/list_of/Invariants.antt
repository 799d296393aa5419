use Rattle.std.proofs.Common.{◌≡◌, take}
use Rattle.ocfl_compare.specs.Gone.{gone_text}
use Rattle.ocfl_accounts.proofs.held.list_of.Given as goal

abbrev pub invariant-loop-at : goal.invariant-loop-at
invariant-loop-at l = l.list.out.items ≡ gone_text (take l.at-index l.changes)
