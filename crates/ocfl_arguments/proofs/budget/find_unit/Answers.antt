use Rattle.std.proofs.Common.{◌∙◌, sym}
use Rattle.ocfl_arguments.proofs.Units.{same_test, row_found, row_passed}
use Rattle.ocfl_arguments.proofs.budget.find_unit.Goals as goal

pub returns-then-eq_ignore_ascii_case : goal.returns-then-eq_ignore_ascii_case
returns-then-eq_ignore_ascii_case c =
    row_found c.args.units.now c.args.text.now c.loop-unit.unit-index _ c.loop-unit-test.true c.loop-unit.invariant
    (sym (same_test _ _ c.eq_ignore_ascii_case.result c.eq_ignore_ascii_case.ensures.test)
    ∙ c.if-eq_ignore_ascii_case.true)

pub loop-unit-preserved : goal.loop-unit-preserved
loop-unit-preserved c =
    row_passed c.args.units.now c.args.text.now c.loop-unit.unit-index _ c.loop-unit-test.true c.loop-unit.invariant
    (sym (same_test _ _ c.eq_ignore_ascii_case.result c.eq_ignore_ascii_case.ensures.test)
    ∙ c.if-eq_ignore_ascii_case.false)
