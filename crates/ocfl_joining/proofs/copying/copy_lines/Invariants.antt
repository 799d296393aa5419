use Rattle.std.proofs.Common.{◌≡◌, List, IsTrue}
use Rattle.std.specs.Option.{option_map}
use Rattle.ocfl_report.specs.Line.{Line}
use Rattle.ocfl_joining.specs.{Crash.{Passes, Same}, Reports.{SameReports}}
use Rattle.ocfl_joining.specs.Internal.Copying.{AreGiven, HasCopied}
use Rattle.ocfl_joining.proofs.copying.copy_lines.Given as goal

abbrev pub invariant-loop : goal.invariant-loop
invariant-loop g l = record {
  copied : IsTrue g.R.PartReports.told → (lines : List Line)
      × (AreGiven lines (g.R.PartReports.seen l.fn.reports) (g.R.PartReports.seen l.reports)
      × HasCopied (option_map (λ p. p.now) l.from) (option_map (λ p. p.now) l.below) lines l.copied);
  unput : IsTrue g.R.PartReports.told → (g.R.PartReports.seen l.reports).put ≡ (g.R.PartReports.seen l.fn.reports).put;
  reports : IsTrue g.R.PartReports.told → SameReports (g.R.PartReports.seen l.fn.reports) (g.R.PartReports.seen l.reports);
  crash : IsTrue g.R.PartReports.lasts → Passes g.R.PartReports.may_leave g.R.PartReports.moment g.R.PartReports.left_since Same l.fn.reports l.reports;
}
