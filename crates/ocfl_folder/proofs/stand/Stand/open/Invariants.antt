use Rattle.std.proofs.Common.{◌≡◌}
use Rattle.std.specs.Prelude.{IsTrue}
use Rattle.ocfl_folder.proofs.stand.Stand.open.Given as goal

abbrev pub invariant-loop : goal.invariant-loop
invariant-loop g l = IsTrue g.S.System.told → (g.S.System.state l.self.system).store ≡ (g.S.System.state l.fn.self.system).store
