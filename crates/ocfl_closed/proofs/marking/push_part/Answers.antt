use Rattle.std.proofs.Common.{arith}
use Rattle.ocfl_closed.proofs.Pushing.{part_read}
use Rattle.ocfl_closed.proofs.marking.push_part.Goals as goal

pub returns-in-Ok-clause-pushed : goal.returns-in-Ok-clause-pushed
returns-in-Ok-clause-pushed g c = λ told le carried.
    let long = c.read_part.array_long in
    let bound = c.in-Ok.ensures.bound in
    let reports = g.met.D.ClosedDisk.reports told in
    part_read _ c.args.start c.in-Ok.count 16384 c.read_part.new.buffer c.args.digests.now c.push.new.self (g.met.D.Report.OpenReport.short reports c.args.report.now) le (omega arith) (omega (arith, bound, long))
    (c.in-Ok.ensures.value reports) carried c.push.ensures
