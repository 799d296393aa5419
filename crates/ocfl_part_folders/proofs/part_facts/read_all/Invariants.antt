use Rattle.std.proofs.Common.{◌≡◌, IsTrue, length}
use Rattle.ocfl_disk.specs.Disk.{Calm}
use Rattle.ocfl_part_folders.specs.Folder.{AreSaid}
use Rattle.ocfl_part_folders.proofs.part_facts.read_all.Given as goal

-- the checkpoints of the parts that were looked at
abbrev pub invariant-loop-index : goal.invariant-loop-index
invariant-loop-index g l = record {
  said : IsTrue g.C.PartCalls.told → AreSaid (g.C.PartCalls.folder l.fn.calls) l.index l.all.items;
  count : length l.all.items ≡ l.index;
  folder : IsTrue g.C.PartCalls.told → g.C.PartCalls.folder l.calls ≡ g.C.PartCalls.folder l.fn.calls;
  calm : IsTrue g.C.PartCalls.told → Calm (g.C.PartCalls.disk l.fn.calls) (g.C.PartCalls.disk l.calls);
}
