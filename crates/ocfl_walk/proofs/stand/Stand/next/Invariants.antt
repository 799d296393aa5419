use Rattle.std.proofs.Common.{◌≡◌, IsTrue, Option}
use Rattle.ocfl_tree.specs.{Place.{Place}, StorageRoot.{StorageRoot}}
use Rattle.ocfl_walk.specs.{Standing.{StandsAt, stand_size}, Internal.Standing.{IsOrderlyStand}}
use Rattle.ocfl_walk.specs.Internal.Walking.{Onward, SoFar}
use Rattle.ocfl_walk.proofs.stand.Stand.next.Given as goal

abbrev pub invariant-loop-item : goal.invariant-loop-item
invariant-loop-item g l = record {
  orderly : IsOrderlyStand l.self;
  onward : Onward l.initial.self l.self;
  told : IsTrue g.T.Tree.told → (root : StorageRoot) → (g.T.Tree.state l.initial.store).tree ≡ root → (last : Option Place) → StandsAt l.further root l.initial.self last
      → SoFar l.further root (g.T.Tree.state l.initial.store) (g.T.Tree.state l.store) last l.end l.self;
}

abbrev pub decreases-loop-item : goal.decreases-loop-item
decreases-loop-item g l = stand_size l.self
