use Rattle.ocfl_joining.proofs.Cycling.{all_joined}
use Rattle.ocfl_joining.proofs.cycles.join_cycles.Goals as goal

pub returns : goal.returns
returns g c =
    let seen = g.C.PartCycles.seen in
    record {
      joined = λ t.
          let h = c.join_earlier_ones-earlier.ensures.tried t in
          all_joined c.args.parts c.args.last h.0 (seen c.args.cycles.now) (seen c.join_earlier_ones-earlier.new.cycles) (seen c.join_last_or_fail-latest.new.cycles)
          c.join_earlier_ones-earlier.result c.join_last_or_fail-latest.result c.both.result h.1.0 h.1.1.0 h.1.1.1 (c.join_last_or_fail-latest.ensures.tried t) c.both.ensures;
    }
