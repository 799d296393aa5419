use Rattle.std.proofs.Common.{◌≡◌, ◌<◌, ℕ, false, take}
use Rattle.std.specs.List.{list_any}
use Rattle.ocfl_report.specs.Line.{line_of}
use Rattle.ocfl_messages.specs.Known.{names_at}
use Rattle.ocfl_messages.proofs.known.look_up.Given as goal

-- no entry of a place above with fewer names names the line
abbrev pub invariant-loop-names : goal.invariant-loop-names
invariant-loop-names l = (m : ℕ) → m < l.names → list_any (names_at (take m l.line.place) (line_of l.line)) l.entries ≡ false
