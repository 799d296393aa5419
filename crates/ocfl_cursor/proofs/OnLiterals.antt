-- What a computed example unfolds.
use Rattle.std.specs.{Prelude.{⊤}, Str.{chars, is_utf8}, Fmt.{digits}}
use Rattle.hex.specs.Hex.{encode_with}
use Rattle.hex.proofs.OnLiterals.{hex_on_literals}
use Rattle.sha2.specs.Sha256 as s256

unfoldable pub cursor_on_literals : ⊤
unfolding s256.first_words s256.schedule s256.rounds s256.compress s256.hash_after s256.digest_bytes s256.sha256 encode_with hex_on_literals chars is_utf8 digits
cursor_on_literals = tt
