use Rattle.std.proofs.Common.{◌∙◌, sym}
use Rattle.ocfl_compare.proofs.Reports.{not_after, above_unfit, same_number}
use Rattle.ocfl_compare.proofs.reading.take_text.Goals as goal

pub returns-then-is_above-clause-bad : goal.returns-then-is_above-clause-bad
returns-then-is_above-clause-bad c = λ n e. (
  same_number c.in-Some.count n e ∙ c.in-Some.ensures.1,
  above_unfit c.args.text.now c.args.reading.next c.in-Ok.line c.in-Ok.ensures.ok (sym c.is_above.ensures ∙ c.if-is_above.true),
)

pub returns-clause-ok : goal.returns-clause-ok
returns-clause-ok c = (c.in-Ok.ensures.ok, (not_after c.args.reading.next c.in-Ok.line (sym c.is_above.ensures ∙ c.if-is_above.false), c.in-Some.ensures.1))
