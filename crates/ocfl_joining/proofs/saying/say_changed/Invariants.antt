use Rattle.std.proofs.Common.{◌≡◌, take}
use Rattle.std.specs.Prelude.{flat_map, string_bytes}
use Rattle.ocfl_joining.specs.Saying.{changed_line}
use Rattle.ocfl_joining.proofs.saying.say_changed.Given as goal

abbrev pub invariant-loop-part : goal.invariant-loop-part
invariant-loop-part l = string_bytes l.text ≡ flat_map (changed_line l.cycle) (take l.part-index l.found)
