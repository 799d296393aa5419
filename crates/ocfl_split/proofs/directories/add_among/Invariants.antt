use Rattle.std.proofs.Common.{◌≡◌, ◌≤◌, ◌++◌, length, drop}
use Rattle.ocfl_split.specs.Internal.Directories.{directories_among}
use Rattle.ocfl_split.proofs.directories.add_among.Given as goal

abbrev pub invariant-loop-entry : goal.invariant-loop-entry
invariant-loop-entry l = record {
  added : l.initial.next.items ++ directories_among l.folder.place l.folder.entries.items ≡ l.next.items ++ directories_among l.folder.place (drop l.entry-index l.folder.entries.items);
  few : length l.initial.next.items ≤ l.room → length l.next.items ≤ l.room;
}
