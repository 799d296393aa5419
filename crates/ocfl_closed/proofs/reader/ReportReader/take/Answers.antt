use Rattle.ocfl_closed.proofs.Checking.{left_on, taken_then}
use Rattle.ocfl_closed.proofs.reader.ReportReader.take.Goals as goal

pub invariant_of-self : goal.invariant_of-self
invariant_of-self g c =
    let F = g.F.OpenReport in
    let me = c.args.self.now in
    record {
      taken = taken_then F.told (F.bytes me.file) me.start c.sum_of-self.result c.args.bytes.now me.check c.push.new.self (λ told. g.met.F.OpenReport.short told me.file) c.requires.next
          (c.sum_of-self.ensures.none, c.sum_of-self.ensures.sum) c.push.ensures.taken me.taken;
    }

pub returns-clause-bytes : goal.returns-clause-bytes
returns-clause-bytes g c = λ told.
    let F = g.F.OpenReport in
    let me = c.args.self.now in
    left_on (F.bytes me.file) me.start c.sum_of-self.result c.args.bytes.now (g.met.F.OpenReport.short told me.file) (c.requires.next told) (c.sum_of-self.ensures.none, c.sum_of-self.ensures.sum) me.check c.push.new.self
    (c.push.ensures.met (F.bytes me.file))
