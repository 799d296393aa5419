use Rattle.std.proofs.Common.{◌≡◌, ◌++◌, take}
use Rattle.ocfl_messages.specs.Closing.{back_lines}
use Rattle.ocfl_messages.proofs.closing.put_all_back_lines.Given as goal

abbrev pub invariant-loop-place : goal.invariant-loop-place
invariant-loop-place l = l.text.items ≡ l.fn.text.items ++ back_lines (take l.place-index l.back)
