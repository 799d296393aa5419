use Rattle.std.proofs.Common.{arith, subst}
use Rattle.ocfl_closed.specs.Back.{list_of}
use Rattle.ocfl_closed.specs.Files.{Files}
use Rattle.ocfl_closed.proofs.{Lost.{Keeps, all_kept, kept_before}, Passing.{still_then}}
use Rattle.ocfl_closed.proofs.back.gone_before.Goals as goal

pub loop-back-preserved : goal.loop-back-preserved
loop-back-preserved g c =
    let D = g.D.ClosedDisk in
    let inv = c.loop-back.invariant in
    record {
      still = λ told. still_then (D.state c.args.disk.now) (D.state c.loop-back.disk) (D.state c.take_before.new.disk) (inv.still told) (c.take_before.ensures.still told);
      faults = λ told. let before = inv.faults told in let after = c.in_ok-take_before.ensures.cause told in omega (arith, before, after);
      lost = λ told. kept_before (D.state c.args.disk.now).files.lists c.args.cycle c.loop-back.back c.saturating_sub.result c.loop-back.gone.items c.take_before.new.gone.items c.saturating_sub.ensures (inv.lost told)
          (subst (λ (f : Files). Keeps c.loop-back.gone.items c.take_before.new.gone.items (list_of f.lists c.saturating_sub.result)) (inv.still told).calm.files (c.in_ok-take_before.ensures.taken told));
    }

pub returns-clause-lost : goal.returns-clause-lost
returns-clause-lost g c = λ told.
    let past = c.loop-back-test.false in
    let end = c.loop-back.auto.back-end in
    all_kept (g.D.ClosedDisk.state c.args.disk.now).files.lists c.args.cycle c.loop-back.back c.loop-back.gone.items (omega (arith, past, end)) (c.loop-back.invariant.lost told)
