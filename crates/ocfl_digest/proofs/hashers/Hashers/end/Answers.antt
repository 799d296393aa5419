use Rattle.sha2.specs.{Sha256.{sha256}, Sha512.{sha512, sha512_256}}
use Rattle.ocfl_digest.proofs.HashersLemmas.{ended, by_algorithm}
use Rattle.ocfl_digest.proofs.hashers.Hashers.end.Goals as goal

pub returns : goal.returns
returns c = λ wanted bytes h.
    by_algorithm wanted bytes _
    (c.end_md5.ensures _ bytes h.md5)
    (c.end_sha1.ensures _ bytes h.sha1)
    (ended sha256 _ bytes _ (c.end_sha2.ensures _ bytes h.sha256))
    (ended sha512 _ bytes _ (c.end_sha2-2.ensures _ bytes h.sha512))
    (ended sha512_256 _ bytes _ (c.end_sha2-3.ensures _ bytes h.sha512_256))
