use Rattle.std.proofs.Common.{◌≡◌, IsTrue}
use Rattle.sha2.specs.Hashers.{Holds256}
use Rattle.ocfl_tree.specs.{Place.{Text}, StorageRoot.{StorageRoot}}
use Rattle.ocfl_identity.proofs.{Askings.{AreOpened}, Sums.{AreBefore}}
use Rattle.ocfl_identity.proofs.declared.hash_declarations.Given as goal

abbrev pub invariant-loop-name : goal.invariant-loop-name
invariant-loop-name g l = record {
  lines : Text;
  holds : Holds256 l.hasher lines;
  keeps : IsTrue g.T.Tree.told → (g.T.Tree.state l.store).tree ≡ (g.T.Tree.state l.fn.store).tree;
  unlisted : IsTrue g.T.Tree.told → (g.T.Tree.state l.store).listings ≡ (g.T.Tree.state l.fn.store).listings;
  told : IsTrue g.T.Tree.told → (root : StorageRoot) → (g.T.Tree.state l.fn.store).tree ≡ root → AreBefore root lines l.names l.name-index;
  opened : IsTrue g.T.Tree.told → (root : StorageRoot) → (g.T.Tree.state l.fn.store).tree ≡ root → AreOpened root (g.T.Tree.state l.fn.store) (g.T.Tree.state l.store) l.names l.name-index;
}
