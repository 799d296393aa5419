use Rattle.std.proofs.Common.{◌≡◌}
use Rattle.std.specs.Prelude.{IsTrue}
use Rattle.ocfl_tree.specs.StorageRoot.{StorageRoot}
use Rattle.ocfl_split.specs.Internal.Directories.{IsLevel}
use Rattle.ocfl_split.proofs.{Ranks.{IsNoneOrLevel}, Descents.{IsSplitSo}}
use Rattle.ocfl_split.proofs.descent.split_level.Given as goal

abbrev pub invariant-loop-depth : goal.invariant-loop-depth
invariant-loop-depth g l = record {
  fair : IsLevel l.depth l.level.items;
  above : IsNoneOrLevel l.above.items;
  told : IsTrue g.T.Tree.told → (root : StorageRoot) → (g.T.Tree.state l.initial.store).tree ≡ root
      → IsSplitSo root (g.T.Tree.state l.initial.store) (g.T.Tree.state l.store) l.count l.depth l.above.items l.level.items;
}
