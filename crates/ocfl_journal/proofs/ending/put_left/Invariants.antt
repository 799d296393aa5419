use Rattle.std.proofs.Common.{◌≡◌, ◌++◌, map, string_bytes, take}
use Rattle.ocfl_files.specs.Reasons.{words_on}
use Rattle.ocfl_journal.specs.Ending.{left_text}
use Rattle.ocfl_journal.proofs.ending.put_left.Given as goal

abbrev pub invariant-loop-branch : goal.invariant-loop-branch
invariant-loop-branch l = map string_bytes l.texts.items ≡ map string_bytes l.fn.texts.items ++ map (λ b. left_text b (words_on l.left b)) (take l.branch-index l.branches)
