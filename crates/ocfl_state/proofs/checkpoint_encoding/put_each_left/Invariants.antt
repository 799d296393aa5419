use Rattle.std.proofs.Common.{◌≡◌, ◌++◌, take, flat_map}
use Rattle.ocfl_state.specs.Checkpoint.{left_text}
use Rattle.ocfl_state.proofs.checkpoint_encoding.put_each_left.Given as goal

abbrev pub invariant-loop-one : goal.invariant-loop-one
invariant-loop-one l = l.text.items ≡ l.fn.text.items ++ flat_map left_text (take l.one-index l.left)
