use Rattle.std.proofs.Common.{◌==◌, ◌≡◌, drop}
use Rattle.std.specs.List.{list_any}
use Rattle.ocfl_mem_disk.proofs.mem_join.is_among.Given as goal

abbrev pub invariant-loop-one : goal.invariant-loop-one
invariant-loop-one l = list_any (λ one. one == l.cycle) l.cycles ≡ list_any (λ one. one == l.cycle) (drop l.one-index l.cycles)
