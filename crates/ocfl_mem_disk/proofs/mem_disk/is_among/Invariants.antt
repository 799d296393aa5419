use Rattle.std.proofs.Common.{◌≡◌, drop}
use Rattle.ocfl_disk.specs.Disk.{has_name}
use Rattle.ocfl_mem_disk.proofs.mem_disk.is_among.Given as goal

abbrev pub invariant-loop-name : goal.invariant-loop-name
invariant-loop-name l = has_name l.cycle l.whole l.closed ≡ has_name l.cycle l.whole (drop l.name-index l.closed)
