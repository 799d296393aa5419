use Rattle.std.proofs.Common.{◌≡◌, ◌+◌, List, length}
use Rattle.std.specs.Io.KnownBytes.{Consumes}
use Rattle.ocfl_report.specs.{Line.{Line as ModelLine}, Text.{lines_text}}
use Rattle.ocfl_separators.specs.Internal.Cutting.{IsCutSoFar}
use Rattle.ocfl_separators.proofs.splitting.split_by.Given as goal

abbrev pub invariant-loop-number : goal.invariant-loop-number
invariant-loop-number g l = record {
  done : List ModelLine;
  cut : IsCutSoFar l.budget done l.cutter.separators l.cutter.spent l.cutter.item;
  number : l.number ≡ length done + 1;
  read : Consumes (g.R.Read.remaining l.fn.report) (g.R.Read.remaining l.report) (lines_text done);
}
