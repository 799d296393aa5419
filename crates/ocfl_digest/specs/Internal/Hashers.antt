-- What the hashers of the wanted algorithms hold.
use Rattle.std.specs.Prelude.{◌≡◌, ℕ, List, Bool, true, false, Option, Some, None}
use Rattle.sha1.specs.Sha1 as sha1
use Rattle.md5.specs.Md5 as md5
use Rattle.sha2.specs.Hashers.{Holds256, Holds512, Holds512_256}
use Rattle.ocfl_tree.specs.Place.{Text}
use Rattle.ocfl_digest.specs.Wanted.{wants}
use Rattle.ocfl_digest.specs.declared.algorithm.Algorithm.TheVariants.{Md5, Sha1, Sha256, Sha512, Sha512_256}
use Rattle.ocfl_digest.specs.{declared.hashers.Hashers.{Hashers}, declared.wanted.Wanted.{Wanted}}

-- there is a hasher exactly if it is wanted, and it holds these bytes
abbrev pub IsFed : {H : Type 0} → (H → List ℕ → Type 0) → Bool → Text → Option H → Type 0
IsFed holds wanted bytes None = wanted ≡ false
IsFed holds wanted bytes (Some h) = (wanted ≡ true) × holds h bytes

-- each wanted hasher holds these bytes
pub record AreFed (w : Wanted) (bytes : Text) (h : Hashers) : Type 0 where
  pub md5 : IsFed md5.Holds (wants w Md5) bytes h.md5
  pub sha1 : IsFed sha1.Holds (wants w Sha1) bytes h.sha1
  pub sha256 : IsFed Holds256 (wants w Sha256) bytes h.sha256
  pub sha512 : IsFed Holds512 (wants w Sha512) bytes h.sha512
  pub sha512_256 : IsFed Holds512_256 (wants w Sha512_256) bytes h.sha512_256
