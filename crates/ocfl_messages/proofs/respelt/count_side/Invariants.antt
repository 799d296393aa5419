use Rattle.std.proofs.Common.{◌≡◌, ◌≤◌, map, take}
use Rattle.ocfl_messages.specs.{Finding.{finding_of}, Grouped.{count_side}}
use Rattle.ocfl_messages.proofs.respelt.count_side.Given as goal

abbrev pub invariant-loop-finding : goal.invariant-loop-finding
invariant-loop-finding l = record {
  is : l.count ≡ count_side l.lost (finding_of l.one) (map finding_of (take l.finding-index l.findings));
  few : l.count ≤ l.finding-index;
}
