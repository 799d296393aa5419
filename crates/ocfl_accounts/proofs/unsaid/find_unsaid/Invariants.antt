use Rattle.std.proofs.Common.{◌≡◌, ◌⊎◌, ◌≤◌, IsTrue}
use Rattle.ocfl_accounts.specs.{Crash.{Passes, Same}, Unsaid.{NoneUnsaid, oldest}}
use Rattle.ocfl_accounts.proofs.unsaid.find_unsaid.Given as goal

abbrev pub invariant-loop-cycle : goal.invariant-loop-cycle
invariant-loop-cycle g l = record {
  end : l.end ≡ l.fn.first;
  low : l.from ≡ oldest l.end;
  from : l.from ≤ l.cycle;
  bound : (l.cycle ≤ l.end) ⊎ (l.cycle ≡ l.from);
  below : IsTrue g.C.Closings.told → NoneUnsaid (g.C.Closings.seen l.fn.closings) l.from l.cycle;
  seen : IsTrue g.C.Closings.told → g.C.Closings.seen l.closings ≡ g.C.Closings.seen l.fn.closings;
  with : IsTrue g.C.Closings.told → g.C.Closings.with l.closings ≡ g.C.Closings.with l.fn.closings;
  crash : IsTrue g.C.Closings.told → Passes g.C.Closings.may_leave g.C.Closings.moment g.C.Closings.left_since Same l.fn.closings l.closings;
  faults : IsTrue g.C.Closings.told → g.C.Closings.faults l.fn.closings ≤ g.C.Closings.faults l.closings;
}
