use Rattle.std.proofs.Common.{◌≡◌, ◌≤◌, ◌++◌, vec_capacity}
use Rattle.std.specs.Io.{StartsWith}
use Rattle.percent_encoding.specs.Iter.{encoded_text}
use Rattle.ocfl_report.specs.Text.{escape}
use Rattle.ocfl_report.proofs.escaped.put_escaped.Given as goal

abbrev pub invariant-loop-piece : goal.invariant-loop-piece
invariant-loop-piece l = record {
  grows : l.out.items ++ encoded_text l.piece-iterator ≡ l.fn.out.items ++ escape l.text;
  begins : StartsWith l.out.items l.fn.out.items;
  capacity : vec_capacity l.fn.out ≤ vec_capacity l.out;
}
