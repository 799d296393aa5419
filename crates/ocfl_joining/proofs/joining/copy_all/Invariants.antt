use Rattle.std.proofs.Common.{◌≡◌, [], IsTrue}
use Rattle.ocfl_joining.specs.{Crash.{Passes, Same}, Reports.{SameReports}, Stops.{AreChanged}}
use Rattle.ocfl_joining.specs.Internal.Copying.{AreAllCopied}
use Rattle.ocfl_joining.proofs.joining.copy_all.Given as goal

abbrev pub invariant-loop-index : goal.invariant-loop-index
invariant-loop-index g l = record {
  copied : IsTrue g.R.PartReports.told → l.changed.items ≡ [] → AreAllCopied l.separators l.index (g.R.PartReports.seen l.fn.reports) (g.R.PartReports.seen l.reports);
  changed : IsTrue g.R.PartReports.told → AreChanged l.separators (g.R.PartReports.seen l.fn.reports) l.index l.changed.items;
  unput : IsTrue g.R.PartReports.told → (g.R.PartReports.seen l.reports).put ≡ (g.R.PartReports.seen l.fn.reports).put;
  reports : IsTrue g.R.PartReports.told → SameReports (g.R.PartReports.seen l.fn.reports) (g.R.PartReports.seen l.reports);
  crash : IsTrue g.R.PartReports.lasts → Passes g.R.PartReports.may_leave g.R.PartReports.moment g.R.PartReports.left_since Same l.fn.reports l.reports;
}
