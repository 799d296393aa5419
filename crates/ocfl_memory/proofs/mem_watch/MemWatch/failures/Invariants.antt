use Rattle.std.proofs.Common.{◌≡◌, ◌+◌, ◌≤◌, drop, length}
use Rattle.ocfl_tree.specs.Store.{failed_openings}
use Rattle.ocfl_memory.proofs.mem_watch.MemWatch.failures.Given as goal

abbrev pub invariant-loop-opening : goal.invariant-loop-opening
invariant-loop-opening l = record {
  counted : l.failures + failed_openings (drop l.opening-index l.self.openings) ≡ failed_openings l.self.openings + length l.self.failed_listings;
  small : l.failures ≤ l.opening-index + length l.self.failed_listings;
}
