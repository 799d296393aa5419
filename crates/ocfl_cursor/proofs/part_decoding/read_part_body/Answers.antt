use Rattle.std.proofs.Common.{refl, sym, subst, ◌∙◌}
use Rattle.ocfl_report.specs.declared.stop.TextStop.TheVariants.{Bad}
use Rattle.ocfl_cursor.specs.Internal.Body.{AreLinesOf}
use Rattle.ocfl_cursor.proofs.{Options.{passed_on}, PartTexts.{part_body-append, part_body_read, part_rest}}
use Rattle.ocfl_cursor.proofs.part_decoding.read_part_body.Goals as goal

pub returns-in_default-clause-bad : goal.returns-in_default-clause-bad
returns-in_default-clause-bad c = λ _ e d h. c.in_default.ensures.missing refl d.further _ (h.is ∙ part_body-append e d)

pub returns-in_err-read_lines-clause-bad : goal.returns-in_err-read_lines-clause-bad
returns-in_err-read_lines-clause-bad c = λ e' e d h.
    let result = c.from_residual-in_err-read_lines in
    let rest = part_rest e c.in_ok-ends.ends c.in-Some.further c.args.body.now c.in-Some.lines.now c.in_ok-ends.lines.now d c.in_ok-ends.ensures.names h c.in-Some.ensures.found c.in_ok-ends.ensures.found in
    let told = subst (λ v. AreLinesOf v c.in_ok-ends.lines.now d) (sym c.version_of.ensures) rest.1 in
    c.in_err-read_lines.ensures.bad (passed_on result.result c.in_err-read_lines.field-0.0 Bad result.ensures.1 e') d told

pub returns-clause-part : goal.returns-clause-part
returns-clause-part c =
    let told = subst (λ v. AreLinesOf v c.in_ok-ends.lines.now c.in_ok-read_lines.field-0) c.version_of.ensures c.in_ok-read_lines.ensures.cursor in
    part_body_read c.in_ok-ends.ends c.in-Some.further c.args.body.now c.in-Some.lines.now c.in_ok-ends.lines.now c.in_ok-read_lines.field-0 c.in_ok-ends.ensures.names
    c.in-Some.ensures.found c.in_ok-ends.ensures.found told
