use Rattle.std.proofs.Common.{arith}
use Rattle.ocfl_closed.proofs.{Passing.{still_then}, Pushing.{all_read}}
use Rattle.ocfl_closed.proofs.marking.push_all.Goals as goal

pub returns-then-count-eq0-clause-carried : goal.returns-then-count-eq0-clause-carried
returns-then-count-eq0-clause-carried g c = λ told begun.
    let inv = c.loop-start.invariant in
    all_read _ c.loop-start.start c.in_ok-count.count c.push_part.new.digests c.if-count-eq0.true (c.in_ok-count.ensures.pushed told (inv.within told begun) (inv.carries told begun))

pub returns-clause-carried : goal.returns-clause-carried
returns-clause-carried g c = λ told begun.
    let short = g.met.D.Report.OpenReport.short (g.met.D.ClosedDisk.reports told) c.args.report.now in
    let within = c.loop-start.invariant.within told begun in
    let over = c.loop-start-test.false in
    absurd (omega (arith, short, within, over))

pub loop-start-preserved : goal.loop-start-preserved
loop-start-preserved g c =
    let D = g.D.ClosedDisk in
    let inv = c.loop-start.invariant in
    record {
      still = λ told. still_then (D.state c.args.disk.now) (D.state c.loop-start.disk) (D.state c.push_part.new.disk) (inv.still told) (c.push_part.ensures.still told);
      faults = λ told. let before = inv.faults told in let after = c.in_ok-count.ensures.cause told in omega (arith, before, after);
      within = λ told begun. (c.in_ok-count.ensures.pushed told (inv.within told begun) (inv.carries told begun)).within;
      carries = λ told begun. (c.in_ok-count.ensures.pushed told (inv.within told begun) (inv.carries told begun)).carries;
    }
