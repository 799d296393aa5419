use Rattle.std.proofs.Common.{List, ℕ, Option}
use Rattle.ocfl_report.specs.Line.{Line as ModelLine}
use Rattle.ocfl_compare.specs.{Internal.Reading.{HasRead, IsNotAbove}, Internal.Summing.{Summarizes}, Seen.{lines_seen}}
use Rattle.ocfl_compare.specs.Internal.Turns.{AreTaken}
use Rattle.ocfl_compare.proofs.reading.take_place.Given as goal

abbrev pub invariant-loop : goal.invariant-loop
invariant-loop g l = record {
  taken : (all : Option (List ℕ)) (done : List ModelLine) → HasRead all (g.R.Read.remaining l.fn.report) done l.fn.first.next l.fn.first.count
      → (own : List ModelLine) × Summarizes l.summary own × AreTaken l.place all (g.R.Read.remaining l.report) done own l.fn.first.next l.reading.next l.reading.count
      × g.T.TakeChange.takes l.fn.taker (lines_seen l.asked l.side own) l.taker;
  least : IsNotAbove l.place l.reading.next;
}
