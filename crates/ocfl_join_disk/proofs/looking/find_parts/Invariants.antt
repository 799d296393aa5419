use Rattle.std.proofs.Common.{◌≡◌, IsTrue}
use Rattle.std.specs.Prelude.{map}
use Rattle.ocfl_joining.specs.{Facts.{facts_at, known_by}, Missing.{numbers}}
use Rattle.ocfl_join_disk.proofs.looking.find_parts.Given as goal

abbrev pub invariant-loop-index : goal.invariant-loop-index
invariant-loop-index g l = record {
  known : IsTrue g.D.JoinDisk.told → l.parts.items ≡ map (λ number. known_by (g.D.JoinDisk.parts l.fn.disk).folders l.cycle number (facts_at l.all number)) (numbers l.index);
  seen : IsTrue g.D.JoinDisk.told → (g.D.JoinDisk.state l.disk).seen ≡ (g.D.JoinDisk.state l.fn.disk).seen;
  parts : IsTrue g.D.JoinDisk.told → g.D.JoinDisk.parts l.disk ≡ g.D.JoinDisk.parts l.fn.disk;
}
