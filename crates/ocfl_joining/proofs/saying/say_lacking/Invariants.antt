use Rattle.std.proofs.Common.{◌≡◌}
use Rattle.std.specs.Prelude.{flat_map, string_bytes}
use Rattle.ocfl_joining.specs.{Missing.{numbers, part_at}, Saying.{left_text}}
use Rattle.ocfl_joining.proofs.saying.say_lacking.Given as goal

abbrev pub invariant-loop-index : goal.invariant-loop-index
invariant-loop-index l = string_bytes l.text ≡ flat_map (λ number. left_text number (part_at l.parts number)) (numbers l.index)
