use Rattle.std.proofs.Common.{◌≡◌, take}
use Rattle.ocfl_mem_disk.proofs.mem_closed_files.copy_places.Given as goal

abbrev pub invariant-loop-place : goal.invariant-loop-place
invariant-loop-place l = l.copy.items ≡ take l.place-index l.places
