use Rattle.std.proofs.Common.{◌≡◌, drop}
use Rattle.ocfl_memory.specs.Faults.{is_planned}
use Rattle.ocfl_memory.proofs.plan.is_planned.Given as goal

abbrev pub invariant-loop-planned : goal.invariant-loop-planned
invariant-loop-planned l = is_planned l.points l.place l.call ≡ is_planned (drop l.planned-index l.points) l.place l.call
