use Rattle.std.proofs.Common.{◌≡◌, length, map, take, drop}
use Rattle.ocfl_report.specs.Line.{line_of}
use Rattle.ocfl_words.specs.Held.{marked_by, marked_of}
use Rattle.ocfl_words.proofs.marked.name_all.Given as goal

-- those before the index are marked, and the others are as they were
abbrev pub invariant-loop-waiting : goal.invariant-loop-waiting
invariant-loop-waiting l = record {
  done : map marked_of (take l.waiting-index l.lines) ≡ map (marked_by (line_of l.line)) (map marked_of (take l.waiting-index l.fn.lines));
  rest : drop l.waiting-index l.lines ≡ drop l.waiting-index l.fn.lines;
  same : length l.lines ≡ length l.fn.lines;
}
