use Rattle.std.proofs.Common.{◌≤◌, ◌-◌, length, take}
use Rattle.ocfl_state.specs.Pieces.{Pushes}
use Rattle.ocfl_state.proofs.pieces.ReportDigests.push_from.Given as goal

abbrev pub invariant-loop-done : goal.invariant-loop-done
invariant-loop-done l = (l.done ≤ length l.bytes) × Pushes (take l.done l.bytes) l.fn.self l.self

abbrev pub decreases-loop-done : goal.decreases-loop-done
decreases-loop-done l = length l.bytes - l.done
