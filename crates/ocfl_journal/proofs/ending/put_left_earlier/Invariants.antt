use Rattle.std.proofs.Common.{◌≡◌, ◌++◌, map, string_bytes, take}
use Rattle.ocfl_journal.specs.Ending.{left_earlier_text}
use Rattle.ocfl_journal.proofs.ending.put_left_earlier.Given as goal

abbrev pub invariant-loop-branch : goal.invariant-loop-branch
invariant-loop-branch l = map string_bytes l.texts.items ≡ map string_bytes l.fn.texts.items ++ map left_earlier_text (take l.branch-index l.earlier)
