use Rattle.std.proofs.Common.{◌≡◌, ◌++◌, take}
use Rattle.std.specs.Io.{StartsWith}
use Rattle.ocfl_separators.specs.Separators.{parts_text}
use Rattle.ocfl_separators.proofs.writing.put_lines.Given as goal

abbrev pub invariant-loop-place : goal.invariant-loop-place
invariant-loop-place l = record {
  written : l.out.items ≡ l.fn.out.items ++ parts_text (take l.place-index l.places);
  begins : StartsWith l.out.items l.fn.out.items;
}
