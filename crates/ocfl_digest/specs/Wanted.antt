-- What a set of algorithms holds.
use Rattle.std.specs.Prelude.{Bool}
use Rattle.ocfl_digest.specs.declared.algorithm.Algorithm.{Algorithm}
use Rattle.ocfl_digest.specs.declared.algorithm.Algorithm.TheVariants.{Md5, Sha1, Sha256, Sha512, Sha512_256}
use Rattle.ocfl_digest.specs.declared.wanted.Wanted.{Wanted}

-- whether an algorithm is in the set
abbrev pub wants : Wanted → Algorithm → Bool
wants w Md5 = w.md5
wants w Sha1 = w.sha1
wants w Sha256 = w.sha256
wants w Sha512 = w.sha512
wants w Sha512_256 = w.sha512_256
