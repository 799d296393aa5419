use Rattle.ocfl_digest.proofs.hashers.Hashers.feed.Goals as goal

pub returns : goal.returns
returns c = λ wanted bytes h. record {
  md5 = c.feed_md5.ensures _ bytes h.md5;
  sha1 = c.feed_sha1.ensures _ bytes h.sha1;
  sha256 = c.feed_sha2.ensures _ bytes h.sha256;
  sha512 = c.feed_sha2-2.ensures _ bytes h.sha512;
  sha512_256 = c.feed_sha2-3.ensures _ bytes h.sha512_256;
}
