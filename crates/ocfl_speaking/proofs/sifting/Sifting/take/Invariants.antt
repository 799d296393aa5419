use Rattle.std.proofs.Common.{◌≡◌, ◌++◌, length}
use Rattle.ocfl_tree.specs.Place.{Text}
use Rattle.ocfl_speaking.specs.Sifting.{Given, IsSifted, given_on}
use Rattle.ocfl_speaking.proofs.sifting.Sifting.take.Given as goal

abbrev pub invariant-loop-part : goal.invariant-loop-part
invariant-loop-part l = record {
  done : Text;
  cut : l.bytes ≡ done ++ l.left;
  after : (g : Given) → IsSifted l.known l.fn.self g → IsSifted l.known l.self (given_on g done);
}

abbrev pub decreases-loop-part : goal.decreases-loop-part
decreases-loop-part l = length l.left
