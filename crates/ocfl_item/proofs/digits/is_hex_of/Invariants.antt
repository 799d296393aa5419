use Rattle.std.proofs.Common.{◌≡◌, drop}
use Rattle.hex.specs.Hex.{encode_lower}
use Rattle.ocfl_tree.specs.Place.{text_eq}
use Rattle.ocfl_item.proofs.digits.is_hex_of.Given as goal

abbrev pub invariant-loop-byte : goal.invariant-loop-byte
invariant-loop-byte l = text_eq l.text (encode_lower l.digest) ≡ text_eq l.rest (encode_lower (drop l.byte-index l.digest))
