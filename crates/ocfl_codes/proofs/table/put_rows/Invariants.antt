use Rattle.std.proofs.Common.{◌≡◌, ◌++◌, take}
use Rattle.ocfl_codes.specs.Table.{rows_text}
use Rattle.ocfl_codes.proofs.table.put_rows.Given as goal

abbrev pub invariant-loop-code : goal.invariant-loop-code
invariant-loop-code l = l.text.items ≡ l.fn.text.items ++ rows_text (take l.code-index l.codes)
