use Rattle.std.proofs.Common.{[]}
use Rattle.ocfl_digest.proofs.hashers.hash_bytes.Goals as goal

pub returns : goal.returns
returns c = c.end.ensures c.args.wanted c.args.bytes.now (c.feed.ensures c.args.wanted [] c.new-hashers.ensures)
