use Rattle.std.proofs.Common.{◌≡◌, [], drop, option_map}
use Rattle.ocfl_mem_disk.specs.Closings.{list_from}
use Rattle.ocfl_mem_disk.proofs.gone_lists.list_after.Given as goal

abbrev pub invariant-loop-call : goal.invariant-loop-call
invariant-loop-call l = list_from l.cycle l.beside (option_map (λ f. f.now) l.found) (drop l.call-index l.log) ≡ list_from l.cycle [] (option_map (λ f. f.now) l.start) l.log
