use Rattle.std.proofs.Common.{take, arith, length-take}
use Rattle.ocfl_digest.proofs.pieces.hash_piece.Goals as goal

pub returns-clause-fed : goal.returns-clause-fed
returns-clause-fed g c = record {
  bytes = take c.in_ok-count.count c.read_piece.new.buffer;
  length_is =
      let bound = c.in_ok-count.ensures.bound in
      let room = c.requires in
      let long = c.read_piece.array_long in
      omega (arith, long, length-take c.in_ok-count.count c.read_piece.new.buffer);
  fed = λ w before h. c.feed.ensures w before h;
  reads = c.in_ok-count.ensures.reads;
}
