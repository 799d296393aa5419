use Rattle.std.proofs.Common.{◌≡◌, ◌++◌, take}
use Rattle.ocfl_messages.specs.Closing.{gone_lines}
use Rattle.ocfl_messages.proofs.closing.put_all_lines.Given as goal

abbrev pub invariant-loop-one : goal.invariant-loop-one
invariant-loop-one l = l.text.items ≡ l.fn.text.items ++ gone_lines (take l.one-index l.gone)
