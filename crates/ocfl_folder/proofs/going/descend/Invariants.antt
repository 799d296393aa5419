use Rattle.std.proofs.Common.{◌≡◌, Some, take}
use Rattle.std.specs.Prelude.{IsTrue}
use Rattle.ocfl_folder.proofs.going.descend.Given as goal

abbrev pub invariant-loop-i : goal.invariant-loop-i
invariant-loop-i g l = (IsTrue g.S.System.told → (g.S.System.state l.system).store ≡ (g.S.System.state l.fn.system).store)
    × (IsTrue g.S.System.told → (g.S.System.state l.fn.system).here ≡ Some (take l.from l.names) → (g.S.System.state l.system).here ≡ Some (take l.i l.names))
