use Rattle.std.proofs.Common.{All, take}
use Rattle.ocfl_state.specs.Checkpoint.{IsLeft}
use Rattle.ocfl_state.proofs.checkpoint_laws.each_left_fits.Given as goal

abbrev pub invariant-loop-one : goal.invariant-loop-one
invariant-loop-one l = All IsLeft (take l.one-index l.left)
