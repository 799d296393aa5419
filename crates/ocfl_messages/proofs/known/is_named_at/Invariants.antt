use Rattle.ocfl_report.specs.Line.{line_of}
use Rattle.ocfl_messages.proofs.Knowns.{AreOther}
use Rattle.ocfl_messages.proofs.known.is_named_at.Given as goal

abbrev pub invariant-loop-index : goal.invariant-loop-index
invariant-loop-index l = AreOther l.place (line_of l.line) l.entries l.index
