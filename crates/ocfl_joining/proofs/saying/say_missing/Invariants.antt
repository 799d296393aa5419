use Rattle.std.proofs.Common.{◌≡◌, take}
use Rattle.std.specs.Prelude.{string_bytes}
use Rattle.ocfl_joining.specs.Saying.{missing_text}
use Rattle.ocfl_joining.proofs.saying.say_missing.Given as goal

abbrev pub invariant-loop-one : goal.invariant-loop-one
invariant-loop-one l = string_bytes l.text ≡ missing_text l.cycle l.parts (take l.one-index l.missing)
