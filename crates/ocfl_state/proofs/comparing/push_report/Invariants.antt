use Rattle.std.proofs.Common.{◌≡◌, ◌-◌, ◌≤◌}
use Rattle.std.specs.Prelude.{IsTrue}
use Rattle.ocfl_state.specs.Crash.{Same, Passes}
use Rattle.ocfl_state.proofs.Readings.{IsPushing}
use Rattle.ocfl_state.proofs.comparing.push_report.Given as goal

abbrev pub invariant-loop-reached : goal.invariant-loop-reached
invariant-loop-reached g l =
    let S = g.S.StateFolder in
    (l.start ≤ l.reached)
    × (IsTrue S.told → IsPushing (S.seen l.fn.folder).report l.start l.end l.reached l.fn.digests l.digests)
    × (IsTrue S.told → S.seen l.folder ≡ S.seen l.fn.folder)
    × (IsTrue S.told → Passes S.may_leave S.moment S.left_since Same l.fn.folder l.folder)
    × (IsTrue S.told → S.faults l.fn.folder ≤ S.faults l.folder)

abbrev pub decreases-loop-reached : goal.decreases-loop-reached
decreases-loop-reached g l = l.end - l.reached
