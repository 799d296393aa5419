-- The digests of some bytes, one for each algorithm that is wanted.
use Rattle.std.specs.Prelude.{◌≡◌, ℕ, List, length, if◌then◌else◌, Option, Some, None}
use Rattle.ocfl_tree.specs.Place.{Text}
use Rattle.ocfl_digest.specs.{Digest.{digest_bytes_of}, Wanted.{wants}}
use Rattle.ocfl_digest.specs.declared.algorithm.Algorithm.{Algorithm}
use Rattle.ocfl_digest.specs.declared.algorithm.Algorithm.TheVariants.{Md5, Sha1, Sha256, Sha512, Sha512_256}
use Rattle.ocfl_digest.specs.{declared.digests.Digests.{Digests}, declared.wanted.Wanted.{Wanted}}

-- the digest that is held for an algorithm
abbrev pub digest_in : Digests → Algorithm → Option (List ℕ)
digest_in d Md5 = d.md5
digest_in d Sha1 = d.sha1
digest_in d Sha256 = d.sha256
digest_in d Sha512 = d.sha512
digest_in d Sha512_256 = d.sha512_256

-- these are the digests of the bytes: for each algorithm that is wanted, and for no other
pub record AreDigests (w : Wanted) (bytes : Text) (d : Digests) : Type 0 where
  pub each : (a : Algorithm) → digest_in d a ≡ (if wants w a then Some (digest_bytes_of a bytes) else None)

-- these are the digests of some n bytes
pub record AreDigestsOfSome (w : Wanted) (d : Digests) (n : ℕ) : Type 0 where
  pub bytes : Text
  pub length_is : length bytes ≡ n
  pub digests : AreDigests w bytes d
