use Rattle.std.proofs.Common.{◌≡◌, drop}
use Rattle.ocfl_join_disk.specs.Shown.{file_named}
use Rattle.ocfl_mem_disk.proofs.mem_disk.find_file.Given as goal

abbrev pub invariant-loop-name : goal.invariant-loop-name
invariant-loop-name l = file_named l.cycle l.whole l.closed ≡ file_named l.cycle l.whole (drop l.name-index l.closed)
