use Rattle.std.proofs.Common.{◌≡◌, IsTrue}
use Rattle.ocfl_disk.specs.Disk.{Calm}
use Rattle.ocfl_part_folders.specs.Folder.{runs_of}
use Rattle.ocfl_part_folders.proofs.asking.count_runs.Given as goal

-- the runs of the parts that were looked at
abbrev pub invariant-loop-index : goal.invariant-loop-index
invariant-loop-index g l = record {
  runs : IsTrue g.C.PartCalls.told → l.runs ≡ runs_of ((g.C.PartCalls.folder l.fn.calls).kept l.cycle) l.cycle l.index;
  folder : IsTrue g.C.PartCalls.told → g.C.PartCalls.folder l.calls ≡ g.C.PartCalls.folder l.fn.calls;
  calm : IsTrue g.C.PartCalls.told → Calm (g.C.PartCalls.disk l.fn.calls) (g.C.PartCalls.disk l.calls);
}
