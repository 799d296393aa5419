use Rattle.std.proofs.Common.{◌≡◌, ℕ, ◌≤◌, length, take}
use Rattle.std.specs.Prelude.{IsTrue}
use Rattle.ocfl_tree.specs.StorageRoot.{StorageRoot}
use Rattle.ocfl_split.specs.Internal.Directories.{IsBelow, IsLevel, AreListable}
use Rattle.ocfl_split.proofs.Deeper.{IsListedSo}
use Rattle.ocfl_split.proofs.descent.next_level.Given as goal

abbrev pub invariant-loop-place : goal.invariant-loop-place
invariant-loop-place g l = record {
  few : length l.next.items ≤ l.room;
  fair : (depth : ℕ) → IsLevel depth l.level → IsBelow (take l.place-index l.level) l.next.items;
  told : IsTrue g.T.Tree.told → (root : StorageRoot) → (g.T.Tree.state l.initial.store).tree ≡ root → AreListable root l.level
      → IsListedSo root (g.T.Tree.state l.initial.store) (g.T.Tree.state l.store) l.room l.level l.place-index l.next.items;
}
