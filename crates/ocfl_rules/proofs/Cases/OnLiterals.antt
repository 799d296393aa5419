-- What a computed example unfolds.
use Rattle.std.specs.{Prelude.{⊤}, Str.{chars, is_utf8}, Fmt.{digits}}
use Rattle.serde_json.proofs.OnLiterals.{serde_json_on_literals}
use Rattle.hex.specs.Hex.{encode_with}
use Rattle.hex.proofs.OnLiterals.{hex_on_literals}
use Rattle.sha2.specs.Sha256 as s256
use Rattle.sha2.specs.Sha512 as s512
use Rattle.sha1.specs.Sha1 as s1
use Rattle.md5.specs.Md5 as m5

unfoldable pub sha256_on_literals : ⊤
unfolding s256.first_words s256.schedule s256.rounds s256.compress s256.hash_after s256.digest_bytes s256.sha256 encode_with
sha256_on_literals = tt

unfoldable pub digests_on_literals : ⊤
unfolding sha256_on_literals s512.first_words s512.schedule s512.rounds s512.compress s512.hash_after s512.digest_bytes s512.sha512 s512.sha512_256
    s1.first_words s1.schedule s1.rounds s1.compress s1.hash_after s1.digest_bytes s1.sha1 m5.block_words m5.rounds m5.compress m5.hash_after m5.digest_bytes m5.md5
digests_on_literals = tt

unfoldable pub audit_on_literals : ⊤
unfolding digests_on_literals hex_on_literals serde_json_on_literals chars is_utf8 digits
audit_on_literals = tt
