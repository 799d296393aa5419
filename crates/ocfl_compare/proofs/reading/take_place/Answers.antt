use Rattle.std.proofs.{Common.{[], ◌++◌, append-nil, subst, sym}, lemmas.Grind.{flat_map-append}, lemmas.Result.{err_from_is_err_and}}
use Rattle.ocfl_compare.specs.{Internal.{Reading.{listed}, Summing.{Summarizes}}, Seen.{line_seen, lines_seen}}
use Rattle.ocfl_compare.proofs.Summaries.{taken_more, at_open, at_another, goes_from}
use Rattle.ocfl_compare.proofs.reading.take_place.Goals as goal

pub returns-in-Ok-Whole-clause-below : goal.returns-in-Ok-Whole-clause-below
returns-in-Ok-Whole-clause-below g c =
    let whole = rw c.in-Ok-Whole.field-0-is at c.in-Ok-Whole.ensures.sums in
    at_another c.args.place.now c.loop.reading.next c.loop.invariant.least whole.0

pub returns-in-Ok-Whole-clause-taken : goal.returns-in-Ok-Whole-clause-taken
returns-in-Ok-Whole-clause-taken g c =
    let whole = rw c.in-Ok-Whole.field-0-is at c.in-Ok-Whole.ensures.sums in
    let seen = rw c.in-Ok-Whole.field-0-is at c.in-Ok-Whole.ensures.seen in
    λ all done h.
    let t = c.loop.invariant.taken all done h in
    let own = t.0 in (
      own,
      subst (λ summary. Summarizes summary own) (sym whole.1) t.1,
      t.2,
      subst (λ ss. g.T.TakeChange.takes c.args.taker.now ss c.take_line.new.taker) (append-nil (lines_seen c.args.asked c.args.side own))
          (g.met.T.TakeChange.joined c.args.taker.now c.loop.taker c.take_line.new.taker (lines_seen c.args.asked c.args.side own) [] t.3 seen),
    )

pub returns-in_err-reading-clause-refused : goal.returns-in_err-reading-clause-refused
returns-in_err-reading-clause-refused g c =
    let p = err_from_is_err_and c.from_residual.result c.from_residual.ensures.1 in
    let more = rw c.in-Ok-More.field-0-is at c.in-Ok-More.ensures.sums in
    rw (p.1, p.2) (λ all done h.
    let t = c.loop.invariant.taken all done h in
    c.in_err-reading.ensures.refused all (done ++ t.0) (at_open c.args.place.now c.loop.reading.next (done ++ t.0) more.0) t.2.reading.reading)

pub loop-preserved : goal.loop-preserved
loop-preserved g c =
    let more = rw c.in-Ok-More.field-0-is at c.in-Ok-More.ensures.sums in
    record {
      taken = λ all done h.
          let t = c.loop.invariant.taken all done h in
          let read = c.in_ok-reading.ensures.ok all (done ++ t.0) (at_open c.args.place.now c.loop.reading.next (done ++ t.0) more.0) t.2.reading.reading in
          let taken = taken_more c.args.place.now all (g.R.Read.remaining c.loop.report) (g.R.Read.remaining c.read_next.new.report) done t.0 c.args.first.next c.loop.reading.next _ c.loop.reading.count _ more.0 t.2 read in
          let next = listed c.loop.reading.next in
          let seen = rw c.in-Ok-More.field-0-is at c.in-Ok-More.ensures.seen in (
            t.0 ++ next,
            more.1 t.0 t.1,
            taken,
            subst (λ ss. g.T.TakeChange.takes c.args.taker.now ss c.take_line.new.taker) (sym (flat_map-append (line_seen c.args.asked c.args.side) t.0 next))
                (g.met.T.TakeChange.joined c.args.taker.now c.loop.taker c.take_line.new.taker _ _ t.3 seen),
          );
      least = goes_from c.args.place.now c.loop.reading.next _ more.0 c.in_ok-reading.ensures.order;
    }
