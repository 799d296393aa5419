use Rattle.std.proofs.Common.{◌≡◌, ◌++◌, List, ℕ}
use Rattle.std.specs.{Prelude.{flat_map}, Fmt.{HasWritten, IsPlainFormatter}}
use Rattle.percent_encoding.specs.Iter.{encoded_text}
use Rattle.ocfl_report.specs.Text.{escape}
use Rattle.ocfl_messages.specs.Quoted.{quoted_byte}
use Rattle.ocfl_messages.proofs.quoted.EscapedWithinDisplay.fmt.Given as goal

abbrev pub invariant-loop-piece : goal.invariant-loop-piece
invariant-loop-piece g l = IsPlainFormatter l.fn.f → (done : List ℕ) × HasWritten g.W.Write.write_str_gives l.fn.f done l.f
    × (done ++ flat_map quoted_byte (encoded_text l.piece-iterator) ≡ flat_map quoted_byte (escape l.self.0.now))
