use Rattle.std.proofs.Common.{◌≡◌, ◌-◌, ◌<◌, ◌^◌, length}
use Rattle.std.specs.Prelude.{IsTrue}
use Rattle.ocfl_kept.proofs.Marking.{IsChecked}
use Rattle.ocfl_kept.proofs.kept.is_marked.Given as goal

-- what was read is before what was not, and was pushed
abbrev pub invariant-loop-start : goal.invariant-loop-start
invariant-loop-start g l =
    let F = g.F.Folder in
    record {
      long : length l.buffer ≡ 16384;
      checked : IsTrue F.shown → length (F.unread l.fn.report) < 2 ^ 63 → IsChecked l.fn.mark l.start l.check (F.unread l.fn.report) (F.unread l.report);
    }

abbrev pub decreases-loop-start : goal.decreases-loop-start
decreases-loop-start g l = 9223372036854775808 - l.start
