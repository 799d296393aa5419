use Rattle.std.proofs.Common.{◌≡◌, flat_map, string_bytes, take}
use Rattle.ocfl_terminal.specs.Naming.{shown_byte}
use Rattle.ocfl_terminal.proofs.naming.shown_name.Given as goal

abbrev pub invariant-loop-byte : goal.invariant-loop-byte
invariant-loop-byte l = string_bytes l.text ≡ flat_map shown_byte (take l.byte-index l.name)
