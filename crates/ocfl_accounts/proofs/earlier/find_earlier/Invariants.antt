use Rattle.std.proofs.Common.{◌≡◌, ◌≤◌, ◌-◌, IsTrue}
use Rattle.ocfl_accounts.specs.{Crash.{Passes, Same}, Cycle.{lowest}}
use Rattle.ocfl_accounts.proofs.Search.{IsLooked}
use Rattle.ocfl_accounts.proofs.earlier.find_earlier.Given as goal

abbrev pub invariant-loop-next : goal.invariant-loop-next
invariant-loop-next g l = record {
  low : l.low ≡ lowest l.cycle;
  looked : IsTrue g.C.Closings.told → IsLooked (g.C.Closings.seen l.fn.closings).sights l.is_whole l.low l.next l.cycle l.missing;
  seen : IsTrue g.C.Closings.told → g.C.Closings.seen l.closings ≡ g.C.Closings.seen l.fn.closings;
  with : IsTrue g.C.Closings.told → g.C.Closings.with l.closings ≡ g.C.Closings.with l.fn.closings;
  crash : IsTrue g.C.Closings.told → Passes g.C.Closings.may_leave g.C.Closings.moment g.C.Closings.left_since Same l.fn.closings l.closings;
  faults : IsTrue g.C.Closings.told → g.C.Closings.faults l.fn.closings ≤ g.C.Closings.faults l.closings;
}

abbrev pub decreases-loop-next : goal.decreases-loop-next
decreases-loop-next g l = l.next - l.low
