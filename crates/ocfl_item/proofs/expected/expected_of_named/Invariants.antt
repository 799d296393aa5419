use Rattle.std.proofs.Common.{◌≡◌, map}
use Rattle.ocfl_inventory.specs.TripleView.{named_view}
use Rattle.ocfl_item.specs.{Internal.FileLines.{expected_by_name}, Pending.{expected_view}}
use Rattle.ocfl_item.proofs.expected.expected_of_named.Given as goal

abbrev pub invariant-loop-entry : goal.invariant-loop-entry
invariant-loop-entry l = map expected_view l.expected.items ≡ map (λ n. expected_by_name (named_view n)) l.yielded
