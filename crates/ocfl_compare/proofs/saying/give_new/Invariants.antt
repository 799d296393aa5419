use Rattle.std.proofs.Common.{take}
use Rattle.std.specs.Prelude.{flat_map}
use Rattle.ocfl_compare.specs.Internal.Summing.{new_at}
use Rattle.ocfl_compare.proofs.saying.give_new.Given as goal

abbrev pub invariant-loop-code : goal.invariant-loop-code
invariant-loop-code g l = g.T.TakeChange.takes l.fn.taker (flat_map (new_at l.place l.before) (take l.code-index l.now)) l.taker
