use Rattle.std.proofs.{Common.{◌∙◌}, lemmas.Result.{IfOk-weaker, IfErr-weaker}}
use Rattle.ocfl_compare.proofs.Reports.{read_more, read_end, stop_read}
use Rattle.ocfl_compare.proofs.reading.read_next.Goals as goal

pub returns-in-Ok-false-clause-ok : goal.returns-in-Ok-false-clause-ok
returns-in-Ok-false-clause-ok g c = λ all done opened h.
    read_end all (g.R.Read.remaining c.args.report.now) (g.R.Read.remaining c.read_next_line.new.reader) done c.args.reading.next c.args.reading.count c.read_next_line.new.text.items h
    (c.in-Ok-false.ensures.end (c.in-Ok-false.field-0-is ∙ c.in-Ok-false.field-0-test)) c.read_next_line.ensures.rest (c.in-Ok-false.ensures.none (c.in-Ok-false.field-0-is ∙ c.in-Ok-false.field-0-test))

pub returns-in-Ok-true-clause-ok : goal.returns-in-Ok-true-clause-ok
returns-in-Ok-true-clause-ok g c =
    IfOk-weaker c.take_text.result _ _ (λ after it all done opened h.
    read_more all (g.R.Read.remaining c.args.report.now) (g.R.Read.remaining c.read_next_line.new.reader) done c.args.reading.next c.args.reading.count opened h after.next after.count
    c.read_next_line.new.text.items c.as_slice.result.now c.read_next_line.ensures.rest c.as_slice.ensures.value it) c.take_text.ensures.ok

pub returns-in-Ok-true-clause-order : goal.returns-in-Ok-true-clause-order
returns-in-Ok-true-clause-order g c = IfOk-weaker c.take_text.result _ _ (λ after it. it.1.0) c.take_text.ensures.ok

pub returns-in-Ok-true-clause-refused : goal.returns-in-Ok-true-clause-refused
returns-in-Ok-true-clause-refused g c =
    IfErr-weaker c.take_text.result _ _ (λ stop bad all done opened h.
    stop_read all (g.R.Read.remaining c.args.report.now) done c.args.reading.next c.args.reading.count c.read_next_line.new.text.items c.as_slice.result.now stop opened h
    c.in-Ok-true.ensures.line (c.in-Ok-true.ensures.more (c.in-Ok-true.field-0-is ∙ c.in-Ok-true.field-0-test)) c.as_slice.ensures.value bad) c.take_text.ensures.bad
