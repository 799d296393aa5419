use Rattle.std.proofs.{Common.{◌∙◌, refl, arith}, lemmas.Result.{err_from_is_err_and}}
use Rattle.ocfl_compare.proofs.Lists.{known_long, known_more, known_bad}
use Rattle.ocfl_compare.proofs.listing.read_list.Goals as goal

pub returns-in_err-take_path-in-Ok-true-clause-refused : goal.returns-in_err-take_path-in-Ok-true-clause-refused
returns-in_err-take_path-in-Ok-true-clause-refused g c =
    let p = err_from_is_err_and c.from_residual.result c.from_residual.ensures.1 in
    rw (p.1, p.2)
    (known_bad (g.R.Read.remaining c.args.list.now) (g.R.Read.remaining c.loop-number.list) (g.R.Read.remaining c.read_next_line.new.reader) c.read_next_line.new.text.items c.as_slice.result.now
    c.loop-number.places.items c.loop-number.number c.in_err-take_path-in-Ok-true.field-0.0 c.loop-number.invariant (c.in-Ok-true.ensures.more (c.in-Ok-true.field-0-is ∙ c.in-Ok-true.field-0-test))
    c.in-Ok-true.ensures.line c.read_next_line.ensures.rest c.as_slice.ensures.value c.in_err-take_path-in-Ok-true.ensures.bad c.in_err-take_path-in-Ok-true.ensures.short)

pub loop-number-preserved : goal.loop-number-preserved
loop-number-preserved g c =
    known_more (g.R.Read.remaining c.args.list.now) (g.R.Read.remaining c.loop-number.list) (g.R.Read.remaining c.read_next_line.new.reader) c.read_next_line.new.text.items c.as_slice.result.now
    c.loop-number.places.items c.loop-number.number c.loop-number.invariant (c.in-Ok-true.ensures.more (c.in-Ok-true.field-0-is ∙ c.in-Ok-true.field-0-test)) c.in-Ok-true.ensures.line c.read_next_line.ensures.rest
    c.as_slice.ensures.value c.take_path.new.places.items _ c.in_ok-take_path-in-Ok-true.ensures.ok refl

pub returns-clause-refused : goal.returns-clause-refused
returns-clause-refused g c =
    let past = c.loop-number-test.false in
    let end = c.loop-number.auto.number-end in
    known_long (g.R.Read.remaining c.args.list.now) (g.R.Read.remaining c.loop-number.list) c.loop-number.places.items c.loop-number.number c.loop-number.invariant (omega (arith, past, end))
