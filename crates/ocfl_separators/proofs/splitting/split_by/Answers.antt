use Rattle.std.proofs.Common.{[], ◌∷◌, ◌++◌, ◌∙◌, length-append, arith}
use Rattle.std.proofs.lemmas.Result.{IfOk-weaker, IfErr-weaker, err_from_is_err_and}
use Rattle.ocfl_separators.proofs.Cuts.{none_taken}
use Rattle.ocfl_separators.proofs.Reports.{none_read, more_read, split_read, end_read, line_read}
use Rattle.ocfl_separators.proofs.splitting.split_by.Goals as goal

pub loop-number-init : goal.loop-number-init
loop-number-init g c = record { done = []; cut = none_taken c.args.budget c.new.result c.new.ensures; number = omega arith; read = none_read (g.R.Read.remaining c.args.report.now) }

pub end-requires : goal.end-requires
end-requires g c = record { below = c.loop-number.invariant.cut.below }

pub returns-in-Ok-false-clause-separators : goal.returns-in-Ok-false-clause-separators
returns-in-Ok-false-clause-separators g c =
    let inv = c.loop-number.invariant in
    let cutter = c.loop-number.cutter in
    IfOk-weaker c.end.result _ _ (λ ps f.
    split_read c.args.budget inv.done cutter.separators cutter.spent cutter.item inv.cut (g.R.Read.remaining c.args.report.now) (g.R.Read.remaining c.loop-number.report) ps inv.read
    (c.in-Ok-false.ensures.end (c.in-Ok-false.field-0-is ∙ c.in-Ok-false.field-0-test)) (f inv.done inv.cut)) c.end.ensures.ok

pub returns-in-Ok-false-clause-refused : goal.returns-in-Ok-false-clause-refused
returns-in-Ok-false-clause-refused g c =
    let inv = c.loop-number.invariant in
    let cutter = c.loop-number.cutter in
    IfErr-weaker c.end.result _ _ (λ stop f.
    end_read c.args.budget inv.done cutter.separators cutter.spent cutter.item inv.cut (g.R.Read.remaining c.args.report.now)
    (g.R.Read.remaining c.loop-number.report) stop inv.read (f inv.done inv.cut)) c.end.ensures.refused

pub take_line-requires : goal.take_line-requires
take_line-requires g c = record { below = c.loop-number.invariant.cut.below }

pub returns-in_err-cutter-in-Ok-true-clause-refused : goal.returns-in_err-cutter-in-Ok-true-clause-refused
returns-in_err-cutter-in-Ok-true-clause-refused g c =
    let inv = c.loop-number.invariant in
    let cutter = c.loop-number.cutter in
    let p = err_from_is_err_and c.from_residual.result c.from_residual.ensures.1 in
    rw (p.1, p.2)
    (line_read c.args.budget inv.done cutter.separators cutter.spent cutter.item inv.cut (g.R.Read.remaining c.args.report.now) (g.R.Read.remaining c.loop-number.report) c.loop-number.number
    c.read_next_line.new.text.items c.deref.result.now c.in_err-cutter-in-Ok-true.field-0.0 inv.read inv.number c.in-Ok-true.ensures.line
    (c.in-Ok-true.ensures.more (c.in-Ok-true.field-0-is ∙ c.in-Ok-true.field-0-test)) c.deref.ensures.value
    (c.in_err-cutter-in-Ok-true.ensures.refused inv.done inv.cut))

pub loop-number-preserved : goal.loop-number-preserved
loop-number-preserved g c =
    let inv = c.loop-number.invariant in
    let next = c.in_ok-cutter-in-Ok-true.ensures.ok inv.done inv.cut in
    record {
      done = inv.done ++ next.0 ∷ [];
      cut = next.2;
      number = omega (arith, inv.number, length-append inv.done (next.0 ∷ []));
      read = more_read (g.R.Read.remaining c.args.report.now) (g.R.Read.remaining c.loop-number.report) (g.R.Read.remaining c.read_next_line.new.reader) inv.done
          next.0 c.read_next_line.new.text.items c.deref.result.now inv.read c.read_next_line.ensures.rest c.deref.ensures.value next.1;
    }
