use Rattle.std.proofs.Common.{◌≡◌, ◌+◌, length, drop}
use Rattle.ocfl_inventory.specs.Sidecar.{leading, is_blank}
use Rattle.ocfl_inventory.proofs.sidecar_text.blanks.Given as goal

abbrev pub invariant-loop-byte : goal.invariant-loop-byte
invariant-loop-byte l = (l.count ≡ l.byte-index) × (l.byte-index + length (leading is_blank (drop l.byte-index l.bytes)) ≡ length (leading is_blank l.bytes))
