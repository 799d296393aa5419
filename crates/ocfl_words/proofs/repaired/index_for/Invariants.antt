use Rattle.ocfl_report.specs.Line.{line_of}
use Rattle.ocfl_words.proofs.Shown.{ComesFrom}
use Rattle.ocfl_words.proofs.repaired.index_for.Given as goal

abbrev pub invariant-loop-index : goal.invariant-loop-index
invariant-loop-index l = ComesFrom (line_of l.line) l.shown l.index
