use Rattle.std.proofs.Common.{◌≡◌, drop}
use denote.Text.{Utf8}
use denote.Shadow.{shadow}
use Rattle.ocfl_tree.specs.Path.{names_of}
use Rattle.ocfl_tree.proofs.path.behind.Given as goal

abbrev pub invariant-loop : goal.invariant-loop
invariant-loop l = shadow (Utf8 l.rest) × (names_of l.rest ≡ drop l.counter (names_of l.fn.path))
