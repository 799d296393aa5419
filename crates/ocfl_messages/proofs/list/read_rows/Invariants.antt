use Rattle.std.proofs.Common.{◌≡◌, ◌+◌, ◌++◌, List, length}
use Rattle.std.specs.Prelude.{All}
use Rattle.ocfl_messages.specs.List.{IsRow, Row, entries_of, rows_text}
use Rattle.ocfl_messages.proofs.list.read_rows.Given as goal

abbrev pub invariant-loop-number : goal.invariant-loop-number
invariant-loop-number l = record {
  rows : List Row;
  are : All IsRow rows;
  cut : l.bytes ≡ rows_text rows ++ l.rest;
  entries : l.entries.items ≡ entries_of rows;
  number : l.number ≡ length rows + 1;
}
