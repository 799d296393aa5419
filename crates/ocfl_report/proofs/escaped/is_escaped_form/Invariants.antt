use Rattle.std.proofs.Common.{◌≡◌, ◌↔◌}
use Rattle.percent_encoding.specs.Iter.{encoded_text}
use Rattle.ocfl_report.specs.Text.{escape}
use Rattle.ocfl_report.proofs.escaped.is_escaped_form.Given as goal

abbrev pub invariant-loop-piece : goal.invariant-loop-piece
invariant-loop-piece l = (l.rest ≡ encoded_text l.piece-iterator) ↔ (l.bytes ≡ escape l.text)
