use Rattle.ocfl_report.specs.declared.stop.TextStop.TheVariants.{Bad}
use Rattle.ocfl_cursor.proofs.{Options.{passed_on}, StoredLines.{stored_rest}}
use Rattle.ocfl_cursor.proofs.lines.read_part_lines.Goals as goal

pub returns-in_err-read_cursor_lines-clause-bad : goal.returns-in_err-read_cursor_lines-clause-bad
returns-in_err-read_cursor_lines-clause-bad c = λ e p d h.
    let result = c.from_residual-in_err-read_cursor_lines in
    c.in_err-read_cursor_lines.ensures.bad (passed_on result.result c.in_err-read_cursor_lines.field-0.0 Bad result.ensures.1 e) d
    (stored_rest c.in_ok-ends.ends c.args.lines.now c.in_ok-ends.rest.now p d c.in_ok-ends.ensures.names c.requires.front c.in_ok-ends.ensures.found h)
