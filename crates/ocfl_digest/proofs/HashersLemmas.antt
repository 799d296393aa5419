-- What ended hashers give.
use Rattle.std.proofs.Common.{◌≡◌, ℕ, List, Bool, true, false, if◌then◌else◌, Option, Some, None, ap, refl}
use Rattle.ocfl_tree.specs.Place.{Text}
use Rattle.ocfl_digest.specs.{Digest.{digest_bytes_of}, Digests.{digest_in, AreDigests}}
use Rattle.ocfl_digest.specs.{Internal.Hashers.{IsFed}, Wanted.{wants}}
use Rattle.ocfl_digest.specs.declared.algorithm.Algorithm.TheVariants.{Md5, Sha1, Sha256, Sha512, Sha512_256}
use Rattle.ocfl_digest.specs.{declared.digests.Digests.{Digests}, declared.wanted.Wanted.{Wanted}}

-- a digest is there exactly if it is wanted
pub ended : (digest : Text → List ℕ) (wanted : Bool) (bytes : Text) (o : Option (List ℕ)) → IsFed (λ d m. d ≡ digest m) wanted bytes o → o ≡ (if wanted then Some (digest bytes) else None)
ended digest true bytes None h = absurd cc
ended digest false bytes None h = refl
ended digest true bytes (Some d) h = ap Some h.1
ended digest false bytes (Some d) h = let no : false ≡ true = h.0 in absurd cc

-- the digests of each algorithm, one by one
pub by_algorithm : (w : Wanted) (bytes : Text) (d : Digests)
    → digest_in d Md5 ≡ (if wants w Md5 then Some (digest_bytes_of Md5 bytes) else None)
    → digest_in d Sha1 ≡ (if wants w Sha1 then Some (digest_bytes_of Sha1 bytes) else None)
    → digest_in d Sha256 ≡ (if wants w Sha256 then Some (digest_bytes_of Sha256 bytes) else None)
    → digest_in d Sha512 ≡ (if wants w Sha512 then Some (digest_bytes_of Sha512 bytes) else None)
    → digest_in d Sha512_256 ≡ (if wants w Sha512_256 then Some (digest_bytes_of Sha512_256 bytes) else None)
    → AreDigests w bytes d
by_algorithm w bytes d md5 sha1 sha256 sha512 sha512_256 = record {
  each = λ a. elim a as (λ x. digest_in d x ≡ (if wants w x then Some (digest_bytes_of x bytes) else None)) [ Md5 ↦ md5 | Sha1 ↦ sha1 | Sha256 ↦ sha256 | Sha512 ↦ sha512 | Sha512_256 ↦ sha512_256 ];
}
