use Rattle.std.proofs.Common.{inl, arith}
use Rattle.ocfl_joining.proofs.Cycling.{tried_more}
use Rattle.ocfl_joining.proofs.cycles.join_earlier_ones.Goals as goal

pub loop-cycle-preserved : goal.loop-cycle-preserved
loop-cycle-preserved g c =
    let seen = g.C.PartCycles.seen in
    let below = c.loop-cycle-test.true in
    record {
      first = c.loop-cycle.invariant.first;
      bound = inl (omega (arith, below));
      tried = λ t.
          tried_more c.args.parts c.oldest_of-first.result c.loop-cycle.cycle (seen c.args.cycles.now) (seen c.loop-cycle.cycles) (seen c.join_or_fail.new.cycles)
          c.loop-cycle.all c.join_or_fail.result c.both-all.result (c.loop-cycle.invariant.tried t) (c.join_or_fail.ensures.tried t) c.both-all.ensures;
    }
