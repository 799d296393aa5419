use Rattle.std.proofs.Common.{◌≡◌, ◌≤◌, ◌++◌, length}
use Rattle.ocfl_separators.specs.Separators.{AreSeparators, parts_text}
use Rattle.ocfl_separators.proofs.reading.read_lines.Given as goal

abbrev pub invariant-loop-rest : goal.invariant-loop-rest
invariant-loop-rest l = record {
  separators : AreSeparators l.separators;
  few : length l.separators ≤ 100000;
  read : l.bytes ≡ parts_text l.separators ++ l.rest;
}

abbrev pub decreases-loop-rest : goal.decreases-loop-rest
decreases-loop-rest l = length l.rest
