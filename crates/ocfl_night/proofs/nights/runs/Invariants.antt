use Rattle.std.proofs.Common.{◌≡◌, ◌≤◌}
use Rattle.ocfl_tree.specs.{Place.{Text}, Store.{IfTold}}
use Rattle.ocfl_item.specs.Judging.{HasShortFiles}
use Rattle.std.specs.Prelude.{IsTrue}
use Rattle.ocfl_scrub.specs.{Keeping.{met_at}, Starting.{part_of}}
use Rattle.ocfl_state.specs.Crash.{LeavesOnly}
use Rattle.ocfl_night.specs.{Done.{done_of}, Ending.{cycle_of}, Leaving.{LeadsOn, MayLeave}, Looks.{Counts, WithLook, look_between, of_any}}
use Rattle.ocfl_night.specs.{Sound.{IsAt, IsReady, IsSoundAt}, Steps.{IsWalkAt}}
use Rattle.ocfl_night.specs.{Asking.{IsDeclaredBy}, Halting.{AreFailed}}
use Rattle.ocfl_night.specs.Reading.{AreDeclarations, content_since, reached}
use Rattle.ocfl_night.proofs.{Again.{SoLittle}, Reading.{SoRead}, Reasons.{IsCounted}, Runs.{SoFar}}
use Rattle.ocfl_night.proofs.nights.runs.Given as goal

abbrev pub invariant-loop-run : goal.invariant-loop-run
invariant-loop-run g l =
    let part = part_of l.fn.part in
    let seen = g.S.StateFolder.seen in
    let may_leave = g.S.StateFolder.may_leave in
    let before = g.T.Tree.state l.fn.tree in
    let now = g.T.Tree.state l.tree in
    record {
      any_moment : IsTrue g.S.StateFolder.told → IfTold g.T.Tree.told before (λ root. HasShortFiles root → WithLook l.fn.start.cursor.further part (look_between l.fn.start.cursor.further root before now) (λ rounds. (t : Text) → IsReady g.S.StateFolder rounds t l.fn.start l.fn.folder → LeavesOnly g.S.StateFolder.moment g.S.StateFolder.left_since l.fn.folder l.folder (IsSoundAt rounds t)));
      ready : IsTrue g.S.StateFolder.told → IfTold g.T.Tree.told before (λ root. HasShortFiles root → WithLook l.fn.start.cursor.further part (look_between l.fn.start.cursor.further root before now) (λ rounds. (t : Text) → IsReady g.S.StateFolder rounds t l.fn.start l.fn.folder → IsReady g.S.StateFolder rounds t l.checkpoint l.folder));
      counts : IfTold g.T.Tree.told before (λ root. HasShortFiles root → Counts before now);
      read : IfTold g.T.Tree.told before (λ root. HasShortFiles root → AreDeclarations l.fn.identity → SoRead before now (reached l.fn.start) (reached l.checkpoint) (content_since l.fn.start.cursor.further root before now));
      closed : IsTrue g.S.StateFolder.told → (seen l.folder).closed ≡ (seen l.fn.folder).closed;
      cycle : cycle_of l.checkpoint ≡ cycle_of l.fn.start;
      told : IsTrue (g.C.Clock.told l.clock) → SoFar l.fn.plan (g.C.Clock.events l.fn.clock) (g.C.Clock.events l.clock) (done_of l.fn.tally) l.fn.start (done_of l.tally) l.checkpoint;
      failed : IsTrue (g.C.Clock.told l.clock) → IfTold g.T.Tree.told before (λ root. HasShortFiles root → AreFailed (g.C.Clock.events l.fn.clock) (g.C.Clock.events l.clock) before now);
      again : IsTrue (g.C.Clock.told l.clock) → IsTrue g.S.StateFolder.told → AreDeclarations l.fn.identity → IfTold g.T.Tree.told before (λ root. HasShortFiles root → IsDeclaredBy root l.fn.identity → (t : Text) → IsReady g.S.StateFolder (of_any l.fn.start.cursor.further part) t l.fn.start l.fn.folder → SoLittle root part g.S.StateFolder (cycle_of l.fn.start) (g.C.Clock.events l.fn.clock) (g.C.Clock.events l.clock) before now l.folder l.checkpoint (met_at l.kept));
      faults : IsTrue g.S.StateFolder.told → g.S.StateFolder.faults l.fn.folder ≤ g.S.StateFolder.faults l.folder;
      at : IsTrue g.S.StateFolder.told → IsAt l.fn.start (seen l.fn.folder) → IsAt l.checkpoint (seen l.folder);
      counted : IsCounted l.fn.start l.checkpoint l.tally.runs;
      passed : l._run ≤ l.tally.runs;
      leads : LeadsOn l.fn.start l.fn.tally.left.items l.checkpoint l.tally.left.items;
      left : MayLeave l.fn.plan.stop_at_faults l.fn.tally.left.items → MayLeave l.fn.plan.stop_at_faults l.tally.left.items;
      root : IfTold g.T.Tree.told (g.T.Tree.state l.fn.tree) (λ root. HasShortFiles root → (g.T.Tree.state l.tree).tree ≡ root);
      walk : IfTold g.T.Tree.told (g.T.Tree.state l.fn.tree) (λ root. HasShortFiles root → IsWalkAt root part l.checkpoint l.kept);
    }
