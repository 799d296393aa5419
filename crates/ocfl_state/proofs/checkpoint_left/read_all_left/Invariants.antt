use Rattle.std.proofs.Common.{◌≡◌, ◌≤◌, ◌-◌, ◌++◌, All, length, flat_map}
use Rattle.ocfl_state.specs.Checkpoint.{IsLeft, left_text}
use Rattle.ocfl_state.proofs.checkpoint_left.read_all_left.Given as goal

abbrev pub invariant-branches : goal.invariant-branches
invariant-branches l = record {
  read : l.text ≡ flat_map left_text l.left.items ++ l.rest;
  few : length l.left.items ≤ l.count;
  names : All IsLeft l.left.items;
}

abbrev pub decreases-branches : goal.decreases-branches
decreases-branches l = l.count - length l.left.items
