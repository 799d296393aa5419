use Rattle.std.proofs.Common.{◌≡◌, ◌++◌, take}
use Rattle.std.specs.Prelude.{flat_map, string_bytes}
use Rattle.ocfl_joining.specs.Saying.{left_line}
use Rattle.ocfl_joining.proofs.saying.add_place_lines.Given as goal

abbrev pub invariant-loop-place : goal.invariant-loop-place
invariant-loop-place l = string_bytes l.text ≡ string_bytes l.fn.text ++ flat_map (left_line l.number) (take l.place-index l.places)
