use Rattle.std.proofs.Common.{◌≡◌, ◌-◌, length, take}
use denote.Text.{Utf8}
use denote.Shadow.{shadow}
use Rattle.ocfl_tree.specs.Path.{names_of}
use Rattle.ocfl_tree.proofs.path.front.Given as goal

abbrev pub invariant-loop : goal.invariant-loop
invariant-loop l = shadow (Utf8 l.front) × (l.end ≡ length (names_of l.fn.path) - l.fn.names) × (names_of l.front ≡ take (length (names_of l.fn.path) - l.counter) (names_of l.fn.path))
