use Rattle.ocfl_reading.proofs.Counting.{all_counted, more_counted}
use Rattle.ocfl_reading.proofs.expected.count_paths.Goals as goal

pub returns-then-not-branch : goal.returns-then-not-branch
returns-then-not-branch g c =
    all_counted (g.B.Read.remaining c.args.list.now) (g.B.Read.remaining c.loop-number.list) c.loop-number.count c.loop-number.invariant (c.in_ok-take_line.ensures.end c.if-not-branch.true)

pub loop-number-preserved : goal.loop-number-preserved
loop-number-preserved g c =
    more_counted (g.B.Read.remaining c.args.list.now) (g.B.Read.remaining c.loop-number.list) (g.B.Read.remaining c.take_line.new.list) c.take_line.new.text.items c.as_slice.result.now
    c.loop-number.count c.in_ok-count_in.field-0 c.saturating_add-count.result c.loop-number.invariant c.take_line.ensures.rest c.in_ok-take_line.ensures.line c.as_slice.ensures.value c.in_ok-count_in.ensures.ok c.saturating_add-count.ensures
