use Rattle.ocfl_joining.proofs.Cycling.{earlier_failed}
use Rattle.ocfl_joining.proofs.cycles.join_or_fail.Goals as goal

pub returns-in-Err : goal.returns-in-Err
returns-in-Err g c = record {
  tried = λ told.
      let seen = g.C.PartCycles.seen in
      earlier_failed c.args.parts c.args.cycle (seen c.args.cycles.now) (seen c.join_earlier.new.cycles) (seen c.fail.new.self) c.in-Err.stop c.fail.result (c.in-Err.ensures.failed told) (c.fail.ensures.says told);
}
