use Rattle.std.proofs.Common.{map, take}
use Rattle.ocfl_item.proofs.WantedLaws.{AreWanted}
use Rattle.ocfl_item.proofs.pending.Pending.wanted.Given as goal

abbrev pub invariant-loop-expected : goal.invariant-loop-expected
invariant-loop-expected l = AreWanted l.wanted (map (λ e. e.algorithm) (take l.expected-index l.expected-items))
