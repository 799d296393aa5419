use Rattle.std.proofs.Common.{◌≡◌, ◌≤◌, map, take}
use Rattle.ocfl_messages.specs.{Finding.{finding_of}, Grouped.{count_with}}
use Rattle.ocfl_messages.proofs.grouped.count_with.Given as goal

abbrev pub invariant-loop-finding : goal.invariant-loop-finding
invariant-loop-finding l = record {
  is : l.count ≡ count_with (finding_of l.one) (map finding_of (take l.finding-index l.findings));
  few : l.count ≤ l.finding-index;
}
