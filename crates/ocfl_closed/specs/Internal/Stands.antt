-- How taking stands, by what takes changes.
use Rattle.std.specs.Prelude.{Bool, Option, map}
use Rattle.ocfl_tree.specs.Place.{Text}
use Rattle.ocfl_report.specs.Line.{line_of}
use Rattle.ocfl_words.specs.Kept.{kept_by}
use Rattle.ocfl_closed.specs.Taken.{Stand}
use Rattle.ocfl_closed.specs.declared.words.Words.{Words}

abbrev pub stand_of : Option Text → Words → Bool → Stand
stand_of list words is_grave = record {
  list = list;
  known = words.noting.known.now;
  said = map line_of words.noting.said.now;
  kept = kept_by words.noting;
  noting = words.noting.changes;
  lines = words.noting.lines;
  since = words.since;
  whole = words.whole;
  is_grave = is_grave;
}
