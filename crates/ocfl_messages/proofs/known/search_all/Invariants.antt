use Rattle.std.proofs.Common.{◌≡◌, drop}
use Rattle.ocfl_report.specs.Line.{line_of}
use Rattle.ocfl_messages.specs.Known.{is_known}
use Rattle.ocfl_messages.proofs.known.search_all.Given as goal

-- the entries so far name another line
abbrev pub invariant-loop-entry : goal.invariant-loop-entry
invariant-loop-entry l = is_known l.entries (line_of l.line) ≡ is_known (drop l.entry-index l.entries) (line_of l.line)
