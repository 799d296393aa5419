use Rattle.std.proofs.Common.{arith}
use Rattle.ocfl_state.proofs.Readings.{part_pushed}
use Rattle.ocfl_state.proofs.comparing.push_part.Goals as goal

pub returns-clause-pushed : goal.returns-clause-pushed
returns-clause-pushed g c = λ told.
    let bound = c.in_ok-count.ensures.bound in
    let room = c.min-room.ensures in
    let long = c.read_part.array_long in
    part_pushed _ c.args.start c.in_ok-count.count _ c.read_part.new.buffer c.args.digests.now c.push_from.new.self (omega (arith, bound, room, long)) (c.in_ok-count.ensures.value told) c.push_from.ensures
