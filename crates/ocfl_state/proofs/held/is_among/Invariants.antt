use Rattle.std.proofs.Common.{◌≡◌, drop}
use Rattle.ocfl_state.specs.Content.{is_closed}
use Rattle.ocfl_state.proofs.held.is_among.Given as goal

abbrev pub invariant-loop-one : goal.invariant-loop-one
invariant-loop-one l = is_closed l.closed l.cycle ≡ is_closed (drop l.one-index l.closed) l.cycle
