-- The digests of a file's bytes.
use Rattle.std.specs.Prelude.{ℕ, List}
use Rattle.sha2.specs.{Sha256.{sha256}, Sha512.{sha512, sha512_256}}
use Rattle.sha1.specs.Sha1.{sha1}
use Rattle.md5.specs.Md5.{md5}
use Rattle.ocfl_tree.specs.Place.{Text}
use Rattle.ocfl_digest.specs.declared.algorithm.Algorithm.{Algorithm}
use Rattle.ocfl_digest.specs.declared.algorithm.Algorithm.TheVariants.{Md5, Sha1, Sha256, Sha512, Sha512_256}

-- RFC 1321, 3; FIPS 180-4, 6.1, 6.2, 6.4 and 6.7
abbrev pub digest_bytes_of : Algorithm → Text → List ℕ
digest_bytes_of Md5 m = md5 m
digest_bytes_of Sha1 m = sha1 m
digest_bytes_of Sha256 m = sha256 m
digest_bytes_of Sha512 m = sha512 m
digest_bytes_of Sha512_256 m = sha512_256 m
