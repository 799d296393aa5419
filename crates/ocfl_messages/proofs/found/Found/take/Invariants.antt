use Rattle.std.proofs.Common.{◌≡◌, ◌++◌, Option, length}
use Rattle.ocfl_tree.specs.Place.{Place, Text}
use Rattle.ocfl_messages.specs.Found.{IsAfter}
use Rattle.ocfl_messages.proofs.found.Found.take.Given as goal

abbrev pub invariant-loop-part : goal.invariant-loop-part
invariant-loop-part l = record {
  done : Text;
  cut : l.bytes ≡ done ++ l.left;
  after : (head : Option Place) (b : Text) → IsAfter l.known head l.fn.self b → IsAfter l.known head l.found (b ++ done);
}

abbrev pub decreases-loop-part : goal.decreases-loop-part
decreases-loop-part l = length l.left
