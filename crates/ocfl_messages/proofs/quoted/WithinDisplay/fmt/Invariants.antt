use Rattle.std.proofs.Common.{◌≡◌, ◌++◌, List, ℕ, length}
use Rattle.std.specs.{Prelude.{flat_map}, Fmt.{HasWritten, IsPlainFormatter}}
use denote.Shadow.{shadow}
use denote.Text.{Utf8}
use Rattle.ocfl_messages.specs.Quoted.{quoted_byte}
use Rattle.ocfl_messages.proofs.quoted.WithinDisplay.fmt.Given as goal

abbrev pub invariant-loop-part : goal.invariant-loop-part
invariant-loop-part g l = shadow (Utf8 l.rest) × (IsPlainFormatter l.fn.f → (done : List ℕ) × HasWritten g.W.Write.write_str_gives l.fn.f done l.f
    × (done ++ flat_map quoted_byte l.rest ≡ flat_map quoted_byte l.self.0.now))

abbrev pub decreases-loop-part : goal.decreases-loop-part
decreases-loop-part g l = length l.rest
