use Rattle.std.proofs.Common.{◌≡◌, ◌≤◌, take}
use Rattle.ocfl_messages.specs.Grouped.{line_count}
use Rattle.ocfl_messages.proofs.grouped.count_lines.Given as goal

abbrev pub invariant-loop-byte : goal.invariant-loop-byte
invariant-loop-byte l = record {
  is : l.count ≡ line_count (take l.byte-index l.text);
  few : l.count ≤ l.byte-index;
}
