use Rattle.std.proofs.Common.{codes, sym, ◌∙◌}
use Rattle.ocfl_report.specs.declared.stop.TextStop.TheVariants.{Bad}
use Rattle.ocfl_cursor.proofs.Options.{passed_on}
use Rattle.ocfl_cursor.proofs.PartTexts.{start_one_line, ends_lines-append, end_line_determines}
use Rattle.ocfl_cursor.proofs.part_decoding.read_ends.Goals as goal

pub returns-in_err-below-clause-bad : goal.returns-in_err-below-clause-bad
returns-in_err-below-clause-bad c = λ e ends rest h f.
    let result = c.from_residual-in_err-below in
    let same = end_line_determines (codes "from ") (codes "start") c.in_ok-from.from ends.from c.in_ok-from.rest.now _ start_one_line
    c.in_ok-from.ensures.names h.from (sym c.in_ok-from.ensures.found ∙ f ∙ ends_lines-append ends rest) in
    c.in_err-below.ensures.bad (passed_on result.result c.in_err-below.field-0.0 Bad result.ensures.1 e) ends.below rest h.below same.1
