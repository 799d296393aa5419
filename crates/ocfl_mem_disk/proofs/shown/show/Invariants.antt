use Rattle.std.proofs.Common.{◌≡◌, drop}
use Rattle.ocfl_mem_disk.specs.Log.{shown_from, shown_of}
use Rattle.ocfl_mem_disk.proofs.shown.show.Given as goal

abbrev pub invariant-loop-call : goal.invariant-loop-call
invariant-loop-call l = shown_from l.shown (drop l.call-index l.log) ≡ shown_of l.log
