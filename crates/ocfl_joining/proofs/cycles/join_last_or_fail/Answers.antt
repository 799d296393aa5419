use Rattle.ocfl_joining.proofs.Cycling.{last_failed}
use Rattle.ocfl_joining.proofs.cycles.join_last_or_fail.Goals as goal

pub returns-in-Err : goal.returns-in-Err
returns-in-Err g c = record {
  tried = λ told.
      let seen = g.C.PartCycles.seen in
      last_failed c.args.last (seen c.args.cycles.now) (seen c.join_last.new.cycles) (seen c.fail.new.self) c.in-Err.stop c.fail.result (c.in-Err.ensures.failed told) (c.fail.ensures.says told);
}
