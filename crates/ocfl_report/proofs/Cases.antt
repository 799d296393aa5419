-- Worked cases: bytes that are escaped, the storage root's place, and the lines of items.
use Rattle.std.proofs.Common.{◌≡◌, [], ◌∷◌, codes, refl}
use Rattle.ocfl_report.specs.{Line.{Item}, Text.{escape_byte, place_text, text}}
use Rattle.ocfl_report.specs.declared.code.Code.TheVariants.{E092, E093}

-- two capital hexadecimal digits
escaped_in_capitals : (escape_byte 10 ≡ codes "%0A") × (escape_byte 171 ≡ codes "%AB")
escaped_in_capitals = (refl, refl)

dot_of_the_storage_root : place_text [] ≡ codes "."
dot_of_the_storage_root = refl

-- a file whose bytes have neither the digest of the manifest nor that of its fixity block
abbrev damaged : Item
damaged = record {
  place = codes "o" ∷ codes "f" ∷ [];
  lines = record { code = E092; place = codes "o" ∷ codes "f" ∷ []; detail = codes "sha256" }
      ∷ record { code = E093; place = codes "o" ∷ codes "f" ∷ []; detail = codes "md5" } ∷ [];
  cost = 4;
}

two_lines_of_an_item : text (damaged ∷ []) ≡ codes "E092\to/f\tsha256\nE093\to/f\tmd5\n"
two_lines_of_an_item = refl
