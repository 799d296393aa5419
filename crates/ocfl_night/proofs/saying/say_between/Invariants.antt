use Rattle.std.proofs.Common.{◌≡◌, ◌≤◌, ◌-◌, take, drop}
use Rattle.std.specs.{Prelude.{IsTrue}, Io.KnownBytes.{Appends}}
use Rattle.ocfl_state.specs.Crash.{Same, Passes}
use Rattle.ocfl_terms.specs.Output.{Grows}
use Rattle.ocfl_night.proofs.saying.say_between.Given as goal

abbrev pub invariant-loop-at : goal.invariant-loop-at
invariant-loop-at g l = record {
  from : l.start ≤ l.at;
  up_to : l.at ≤ l.end;
  said : IsTrue g.S.StateFolder.told → Appends (g.O.Output.said l.fn.out).given (g.O.Output.said l.out).given (take (l.at - l.start) (drop l.start (g.S.StateFolder.seen l.fn.folder).report));
  later : IsTrue g.S.StateFolder.told → g.S.StateFolder.faults l.fn.folder ≤ g.S.StateFolder.faults l.folder;
  grew : Grows (g.O.Output.said l.fn.out) (g.O.Output.said l.out);
  seen : IsTrue g.S.StateFolder.told → g.S.StateFolder.seen l.folder ≡ g.S.StateFolder.seen l.fn.folder;
  crash : IsTrue g.S.StateFolder.told → Passes g.S.StateFolder.may_leave g.S.StateFolder.moment g.S.StateFolder.left_since Same l.fn.folder l.folder;
}

abbrev pub decreases-loop-at : goal.decreases-loop-at
decreases-loop-at g l = l.end - l.at
