use Rattle.std.proofs.Common.{◌≡◌, ◌≤◌, ◌-◌, Some, length, take}
use Rattle.std.specs.Prelude.{IsTrue}
use Rattle.ocfl_tree.specs.Place.{Place}
use Rattle.ocfl_folder.proofs.going.climb.Given as goal

abbrev pub invariant-loop : goal.invariant-loop
invariant-loop g l = (IsTrue g.S.System.told → (g.S.System.state l.system).store ≡ (g.S.System.state l.fn.system).store)
    × (IsTrue g.S.System.told → (p : Place) → (g.S.System.state l.fn.system).here ≡ Some p → l.fn.count ≤ length p → (g.S.System.state l.system).here ≡ Some (take (length p - l.counter) p))
