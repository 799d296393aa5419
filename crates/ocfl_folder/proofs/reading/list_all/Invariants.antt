use Rattle.std.specs.Prelude.{IsTrue}
use Rattle.ocfl_folder.specs.{System.{IfHere}, Internal.Covering.{CoversBut}}
use Rattle.ocfl_folder.proofs.reading.list_all.Given as goal

abbrev pub invariant-loop : goal.invariant-loop
invariant-loop g l = IsTrue g.S.System.told → IfHere (g.S.System.state l.system) (λ root p. CoversBut root p l.listed.entries.items (g.S.System.left l.names))
